use Rattle.std.proofs.Common.{◌≡◌, map, take}
use Rattle.al_scope.specs.Recasts.{recast_component}
use Rattle.al_scope.proofs.recast.recast_components.Given as goal

abbrev pub invariant-loop-component : goal.invariant-loop-component
invariant-loop-component l = l.made ≡ map (recast_component l.recasts) (take l.component-index l.of)
