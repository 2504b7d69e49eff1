use Rattle.al_stmts.specs.Simple.{delayed}
use Rattle.al_stmts_text.proofs.MadeOfRead.{alone_by}
use Rattle.al_stmts_text.proofs.plain.check_delay.Goals as goal

pub returns-clause-answered : goal.returns-clause-answered
returns-clause-answered g c = λ t h. let read = c.in_ok-moment.ensures.answered t h in (read.0, λ enclosing. alone_by (delayed c.args.statement.now.opening.line) _ _ _ _ read.1 c.delay.ensures)
