use Rattle.std.proofs.Common.{◌≡◌, take, false, bytes_eq}
use Rattle.std.specs.List.{list_any}
use Rattle.al_unit_graph.proofs.fault.contains_name.Given as goal

abbrev pub invariant-loop-n : goal.invariant-loop-n
invariant-loop-n l = list_any (λ n. bytes_eq n l.name) (take l.n-index l.names) ≡ false
