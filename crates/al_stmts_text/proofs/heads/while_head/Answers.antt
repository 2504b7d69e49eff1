use Rattle.al_stmts.specs.LoopForms.{while_scheme}
use Rattle.al_stmts_text.proofs.Read.{made_of}
use Rattle.al_stmts_text.proofs.heads.while_head.Goals as goal

pub returns-clause-answered : goal.returns-clause-answered
returns-clause-answered g c = λ t h. let read = c.in_ok-checked.ensures.answered t h in (read.0, made_of while_scheme _ _ _ _ read.1 c.while_scheme.ensures)
