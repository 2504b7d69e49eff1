use Rattle.std.proofs.Common.{◌≡◌, drop, length}
use Rattle.al_query.specs.Asked.{AsksOf, by_property}
use Rattle.al_query.specs.Reads.{FromAnswers}
use Rattle.al_scope.specs.UnitPlaces.{outward_opened}
use Rattle.al_scope.proofs.private_part.open_each.Given as goal

abbrev pub invariant-loop-i : goal.invariant-loop-i
invariant-loop-i g l = record {
  asks : AsksOf l.units by_property l.fn.recorder.log l.recorder.log;
  asked : l.recorder.asked ≡ l.fn.recorder.asked;
  answered : FromAnswers l.fn.recorder.log l.recorder.log (λ t. outward_opened t l.sees (drop l.i l.units) l.scope.regions ≡ outward_opened t l.sees l.units l.fn.scope.regions);
  depth : length l.scope.regions ≡ length l.fn.scope.regions;
  mentioned : l.scope.mentioned ≡ l.fn.scope.mentioned;
}
