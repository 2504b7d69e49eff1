use Rattle.std.proofs.Common.{◌≡◌, map, take}
use Rattle.al_base.specs.Batch.{key_of}
use Rattle.al_bind.specs.Binding.{line_of, line_model}
use Rattle.al_bind.proofs.binding.lines_of.Given as goal

abbrev pub invariant-loop-edge : goal.invariant-loop-edge
invariant-loop-edge l = map line_model l.lines.items ≡ map (line_of (map key_of l.keys)) (take l.edge-index l.edges)
