use Rattle.al_engine.specs.Reasons.{AreUnset}
use Rattle.al_engine.proofs.reasons.first_of.Given as goal

abbrev pub invariant-loop-at : goal.invariant-loop-at
invariant-loop-at l = AreUnset l.marks.now l.at
