use Rattle.std.proofs.Common.{◌≡◌, length}
use Rattle.al_overload.specs.Chains.{listed}
use Rattle.al_overload.specs.Counts.{labels_of}
use Rattle.al_overload.specs.Labelling.{NoLabel}
use Rattle.al_overload.proofs.chain.gathered.Given as goal

abbrev pub invariant-loop-operand : goal.invariant-loop-operand
invariant-loop-operand l = listed l.each.items (labels_of l.all) ≡ listed l.fn.each.items NoLabel

abbrev pub decreases-loop-operand : goal.decreases-loop-operand
decreases-loop-operand l = length l.each.items
