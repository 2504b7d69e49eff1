use Rattle.std.proofs.Common.{◌≡◌, drop}
use Rattle.al_overload.specs.PickedTypes.{placed}
use Rattle.al_overload.proofs.picked_types.placed.Given as goal

abbrev pub invariant-loop-component : goal.invariant-loop-component
invariant-loop-component l = placed l.name (drop l.component-index l.components) l.left ≡ placed l.name l.components l.fn.offsets
