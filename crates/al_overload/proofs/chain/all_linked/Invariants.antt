use Rattle.std.proofs.Common.{◌≡◌, length}
use Rattle.al_overload.specs.Chains.{all_linked}
use Rattle.al_overload.specs.Counts.{label_of}
use Rattle.al_overload.proofs.chain.all_linked.Given as goal

abbrev pub invariant-loop-link : goal.invariant-loop-link
invariant-loop-link l = all_linked l.links.items (label_of l.labelled) ≡ all_linked l.fn.links.items (label_of l.fn.first)

abbrev pub decreases-loop-link : goal.decreases-loop-link
decreases-loop-link l = length l.links.items
