use Rattle.std.proofs.Common.{◌≡◌, length}
use Rattle.al_overload_nodes.specs.Chains.{chained_node}
use Rattle.al_overload_nodes.specs.Views.{reading_model}
use Rattle.al_overload_nodes.proofs.chain.chained.Given as goal

abbrev pub invariant-loop-joint : goal.invariant-loop-joint
invariant-loop-joint l =
    chained_node l.labeller.predefined l.place l.joints.items (reading_model l.reading.value) ≡ chained_node l.labeller.predefined l.place l.fn.joints.items (reading_model l.fn.first.value)

abbrev pub decreases-loop-joint : goal.decreases-loop-joint
decreases-loop-joint l = length l.joints.items
