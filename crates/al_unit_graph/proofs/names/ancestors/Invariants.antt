use Rattle.std.proofs.Common.{◌≡◌, take, map}
use Rattle.al_unit_graph.specs.Names.{ancestors}
use Rattle.al_unit_graph.proofs.names.ancestors.Given as goal

abbrev pub invariant-loop-i : goal.invariant-loop-i
invariant-loop-i l = map (λ n. n.now) l.names.items ≡ ancestors (take l.i l.name)
