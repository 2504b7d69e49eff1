use Rattle.al_stmts_text.proofs.returns.check_return.Goals as goal

pub returns-in-Some-clause-answered : goal.returns-in-Some-clause-answered
returns-in-Some-clause-answered g c = rw c.in-Some.is c.any_value_returned.ensures.answered
