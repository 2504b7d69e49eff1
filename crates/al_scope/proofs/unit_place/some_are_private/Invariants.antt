use Rattle.std.proofs.Common.{◌≡◌, false, take}
use Rattle.al_query.specs.Asked.{AsksOf, by_property}
use Rattle.al_query.specs.Reads.{FromAnswers}
use Rattle.al_scope.specs.UnitPlaces.{some_private}
use Rattle.al_scope.proofs.unit_place.some_are_private.Given as goal

abbrev pub invariant-loop-unit : goal.invariant-loop-unit
invariant-loop-unit g l = record {
  asks : AsksOf l.units by_property l.fn.recorder.log l.recorder.log;
  asked : l.recorder.asked ≡ l.fn.recorder.asked;
  answered : FromAnswers l.fn.recorder.log l.recorder.log (λ t. some_private t (take l.unit-index l.units) ≡ false);
}
