use Rattle.std.proofs.Common.{◌≡◌, length}
use Rattle.al_base_fault.specs.Judging.{map_ok}
use Rattle.al_overload_lookup.specs.Keys.{denoted}
use Rattle.al_overload.specs.TermViews.{term_model}
use Rattle.al_overload_readings.specs.Chains.{chained}
use Rattle.al_overload_readings.proofs.chain.chained.Given as goal

abbrev pub invariant-loop-joint : goal.invariant-loop-joint
invariant-loop-joint l = chained (denoted l.names) l.joints.items (map_ok term_model l.term) ≡ chained (denoted l.names) l.fn.joints.items (map_ok term_model l.fn.first)

abbrev pub decreases-loop-joint : goal.decreases-loop-joint
decreases-loop-joint l = length l.joints.items
