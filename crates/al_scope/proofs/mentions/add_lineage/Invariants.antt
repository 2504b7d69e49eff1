use Rattle.std.proofs.Common.{◌≡◌, ◌++◌, map, take}
use Rattle.al_scope.proofs.mentions.add_lineage.Given as goal

abbrev pub invariant-loop-slice : goal.invariant-loop-slice
invariant-loop-slice l = l.names.items ≡ l.fn.names.items ++ map (λ n. n.now) (take l.slice-index l.slice-items)
