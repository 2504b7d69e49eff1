use Rattle.al_stmts.proofs.Folded.{alternatives_all, elsifs_all, statements_all}
use Rattle.al_stmts.proofs.walk.+walk.Goals as goal

pub in_more-returns : goal.in_more-returns
in_more-returns t c = statements_all c.args.statements.now c.loop-statement.statement-index c.loop-statement.found c.loop-statement.invariant c.loop-statement-test.false

pub in_elsifs-returns : goal.in_elsifs-returns
in_elsifs-returns t c = elsifs_all c.args.branches.now c.loop-other.other-index c.loop-other.found c.loop-other.invariant c.loop-other-test.false

pub in_alternatives-returns : goal.in_alternatives-returns
in_alternatives-returns t c = alternatives_all c.args.alternatives.now c.loop-alternative.alternative-index c.loop-alternative.found c.loop-alternative.invariant c.loop-alternative-test.false
