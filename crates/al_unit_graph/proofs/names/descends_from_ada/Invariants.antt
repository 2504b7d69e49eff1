use Rattle.std.proofs.Common.{◌≡◌, take, bytes_eq, false}
use Rattle.std.specs.List.{list_any}
use Rattle.al_unit_graph.specs.Names.{ada, ancestors}
use Rattle.al_unit_graph.proofs.names.descends_from_ada.Given as goal

abbrev pub invariant-loop-i : goal.invariant-loop-i
invariant-loop-i l = list_any (λ n. bytes_eq n ada) (ancestors (take l.i l.name)) ≡ false
