use Rattle.al_stmts.specs.Steps.{part_of}
use Rattle.al_stmts_text.proofs.Read.{made_of}
use Rattle.al_stmts_text.proofs.items.task_item.Goals as goal

pub returns-clause-answered : goal.returns-clause-answered
returns-clause-answered g c = λ t h. let read = c.in_ok-checked.ensures.answered t h in (read.0, made_of part_of _ _ _ _ read.1 c.declared.ensures)
