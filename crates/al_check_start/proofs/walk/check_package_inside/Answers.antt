use Rattle.al_stmts.specs.Steps.{Part, inside_of, nothing}
use Rattle.al_stmts_text.proofs.Read.{if_ok, made_of}
use Rattle.al_check_start.proofs.walk.check_package_inside.Goals as goal

pub returns-in-Some-clause-answered : goal.returns-in-Some-clause-answered
returns-in-Some-clause-answered g c = rw c.in-Some.is c.check_package_statements.ensures.answered

pub returns-in_ok-close_part-in-None-clause-answered : goal.returns-in_ok-close_part-in-None-clause-answered
returns-in_ok-close_part-in-None-clause-answered g c =
    rw c.in-None.is
    (if_ok c.without_statements.result _ _
    (λ done is t h. let closed = c.in_ok-close_part-in-None.ensures.answered t h in (closed.0, made_of (λ (p : Part). inside_of p nothing) _ _ _ _ closed.1 is))
    c.without_statements.ensures)
