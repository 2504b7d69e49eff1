use Rattle.std.proofs.Common.{◌≡◌, drop}
use Rattle.al_query.specs.Asked.{AsksOf, by_property}
use Rattle.al_query.specs.Reads.{FromAnswers}
use Rattle.al_scope.specs.UnitPlaces.{inward}
use Rattle.al_scope.proofs.unit_place.enter_ancestors.Given as goal

abbrev pub invariant-loop-i : goal.invariant-loop-i
invariant-loop-i g l = record {
  asks : AsksOf l.units by_property l.fn.recorder.log l.recorder.log;
  asked : l.recorder.asked ≡ l.fn.recorder.asked;
  answered : FromAnswers l.fn.recorder.log l.recorder.log (λ t. inward t l.sees (drop l.i l.units) l.scope.regions ≡ inward t l.sees l.units l.fn.scope.regions);
  mentioned : l.scope.mentioned ≡ l.fn.scope.mentioned;
}
