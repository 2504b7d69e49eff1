use Rattle.std.proofs.Common.{◌≡◌, map, take}
use Rattle.al_base.specs.Batch.{key_of}
use Rattle.al_bind.specs.Binding.{items_at}
use Rattle.al_bind.proofs.binding.items_at.Given as goal

abbrev pub invariant-loop-place : goal.invariant-loop-place
invariant-loop-place l = map key_of l.items.items ≡ items_at l.sources (map key_of l.nodes) (take l.place-index l.order)
