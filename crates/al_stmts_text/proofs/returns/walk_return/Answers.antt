use Rattle.std.proofs.Common.{◌∙◌}
use Rattle.al_stmts_text.proofs.Read.{as_made, if_ok}
use Rattle.al_stmts_text.proofs.returns.walk_return.Goals as goal

pub returns-clause-answered : goal.returns-clause-answered
returns-clause-answered g c =
    let answered = rw c.returns.ensures at c.in_ok-checked.ensures.answered in
    if_ok c.alone.result _ _ (λ walked is t h. let read = answered t h in (read.0, as_made _ _ _ is ∙ read.1 c.args.enclosing.now.loops)) c.alone.ensures
