use Rattle.std.proofs.Common.{◌≡◌, take}
use Rattle.std.specs.Option.{option_map}
use Rattle.al_unit_graph.specs.Names.{parent_of}
use Rattle.al_unit_graph.proofs.names.parent_of.Given as goal

abbrev pub invariant-loop-i : goal.invariant-loop-i
invariant-loop-i l = option_map (λ n. n.now) l.parent ≡ parent_of (take l.i l.name)
