use Rattle.al_stmts.proofs.CoverLemmas.{Sweeps}
use Rattle.al_stmts.proofs.cover.are_covering.Given as goal

abbrev pub invariant-loop-range : goal.invariant-loop-range
invariant-loop-range l = Sweeps l.ranges l.fn.whole l.missing l.range-index
