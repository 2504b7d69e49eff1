use Rattle.std.proofs.Common.{◌≡◌, map, take}
use Rattle.al_scope_context.proofs.context.lineage_of.Given as goal

abbrev pub invariant-loop-slice : goal.invariant-loop-slice
invariant-loop-slice l = l.names.items ≡ map (λ n. n.now) (take l.slice-index l.slice-items)
