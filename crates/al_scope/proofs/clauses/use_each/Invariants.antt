use Rattle.std.proofs.Common.{◌≡◌, length, take}
use Rattle.al_scope.specs.UnitPlaces.{with_clauses}
use Rattle.al_scope.proofs.clauses.use_each.Given as goal

abbrev pub invariant-loop-clause : goal.invariant-loop-clause
invariant-loop-clause l = record {
  regions : l.scope.regions ≡ with_clauses (take l.clause-index l.clauses) l.fn.scope.regions;
  depth : length l.scope.regions ≡ length l.fn.scope.regions;
  mentioned : l.scope.mentioned ≡ l.fn.scope.mentioned;
}
