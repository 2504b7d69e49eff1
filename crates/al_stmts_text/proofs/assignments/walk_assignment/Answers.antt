use Rattle.std.proofs.Common.{◌∙◌}
use Rattle.al_stmts_text.proofs.Read.{as_made, if_ok}
use Rattle.al_stmts_text.proofs.assignments.walk_assignment.Goals as goal

pub returns-clause-answered : goal.returns-clause-answered
returns-clause-answered g c =
    if_ok c.alone.result _ _ (λ walked is t h. let read = c.in_ok-checked.ensures.answered t h in (read.0, as_made _ _ _ is ∙ read.1 c.args.enclosing.now)) c.alone.ensures
