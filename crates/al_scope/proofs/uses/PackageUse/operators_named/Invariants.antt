use Rattle.std.proofs.Common.{◌≡◌, take}
use Rattle.std.specs.List.{flat_map}
use Rattle.al_view.specs.Interfaces.{views_of}
use Rattle.al_scope.proofs.uses.PackageUse.operators_named.Given as goal

abbrev pub invariant-loop-of_type : goal.invariant-loop-of_type
invariant-loop-of_type l = l.views ≡ flat_map (λ d. views_of d l.name) (take l.of_type-index l.of_type-items)
