use Rattle.std.proofs.Common.{◌≡◌, map, take}
use Rattle.al_scope.specs.UseClauses.{package_unit}
use Rattle.al_scope.proofs.unit_place.ancestors_of.Given as goal

abbrev pub invariant-loop-ancestor : goal.invariant-loop-ancestor
invariant-loop-ancestor l = l.units.items ≡ map (λ n. package_unit n.now) (take l.ancestor-index l.ancestor-items)
