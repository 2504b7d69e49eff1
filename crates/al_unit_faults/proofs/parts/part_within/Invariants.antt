use Rattle.std.proofs.Common.{◌≡◌, suc}
use Rattle.al_unit_graph.specs.Views.{header_model}
use Rattle.al_unit_faults.specs.Parts.{part_within}
use Rattle.al_unit_faults.proofs.parts.part_within.Given as goal

abbrev pub invariant-loop-inner : goal.invariant-loop-inner
invariant-loop-inner l = part_within (suc l.left) l.sources (header_model l.inner) ≡ part_within (suc l.count) l.sources (header_model l.header)

abbrev pub decreases-loop-inner : goal.decreases-loop-inner
decreases-loop-inner l = l.left
