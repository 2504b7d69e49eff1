use Rattle.std.proofs.Common.{◌≡◌, map, take}
use Rattle.al_overload.specs.Aggregates.{component_wanted}
use Rattle.al_overload.proofs.aggregate.wanted_each.Given as goal

abbrev pub invariant-loop-component : goal.invariant-loop-component
invariant-loop-component l = l.expected ≡ map (component_wanted l.types) (take l.component-index l.components)
