use Rattle.std.proofs.Common.{◌≡◌, false, map, take, bytes_eq}
use Rattle.std.specs.List.{list_any}
use Rattle.al_unit_faults.proofs.private.is_one_of.Given as goal

abbrev pub invariant-loop-n : goal.invariant-loop-n
invariant-loop-n l = list_any (λ n. bytes_eq n l.name) (map (λ n. n.now) (take l.n-index l.names)) ≡ false
