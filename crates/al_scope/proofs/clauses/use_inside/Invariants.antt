use Rattle.std.proofs.Common.{◌≡◌, length, take}
use Rattle.al_scope.specs.UnitPlaces.{inside, with_clauses}
use Rattle.al_scope.proofs.clauses.use_inside.Given as goal

abbrev pub invariant-loop-used : goal.invariant-loop-used
invariant-loop-used l = record {
  regions : l.scope.regions ≡ with_clauses (inside (take l.used-index l.uses) l.part) l.fn.scope.regions;
  depth : length l.scope.regions ≡ length l.fn.scope.regions;
  mentioned : l.scope.mentioned ≡ l.fn.scope.mentioned;
}
