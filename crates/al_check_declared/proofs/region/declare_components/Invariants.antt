use Rattle.std.proofs.Common.{◌≡◌, length, take}
use Rattle.std.specs.Prelude.{fold}
use Rattle.al_check_declared.specs.ObjectRegions.{with_component}
use Rattle.al_check_declared.proofs.region.declare_components.Given as goal

abbrev pub invariant-loop-component : goal.invariant-loop-component
invariant-loop-component l =
    ((l.env, l.word) ≡ fold (with_component l.object l.is_constant) (l.fn.env, 0) (take l.component-index l.components)) × (length l.env.scope.regions ≡ length l.fn.env.scope.regions)
