use Rattle.std.proofs.Common.{◌≡◌, take}
use Rattle.std.specs.List.{flat_map}
use Rattle.al_query.specs.Asked.{AsksOf, by_property}
use Rattle.al_query.specs.Reads.{FromAnswers}
use Rattle.al_scope.specs.UnitPlaces.{at_stubs, stub_units}
use Rattle.al_scope.proofs.unit_place.enter_stubs.Given as goal

abbrev pub invariant-loop-stub : goal.invariant-loop-stub
invariant-loop-stub g l = record {
  asks : AsksOf (flat_map stub_units (take l.stub-index l.stubs)) by_property l.fn.recorder.log l.recorder.log;
  asked : l.recorder.asked ≡ l.fn.recorder.asked;
  answered : FromAnswers l.fn.recorder.log l.recorder.log (λ t. l.scope.regions ≡ at_stubs t (take l.stub-index l.stubs) l.fn.scope.regions);
  mentioned : l.scope.mentioned ≡ l.fn.scope.mentioned;
}
