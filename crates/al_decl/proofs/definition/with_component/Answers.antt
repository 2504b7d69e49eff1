use Rattle.al_decl.proofs.definition.with_component.Goals as goal

pub returns-in-Ok-clause-answered : goal.returns-in-Ok-clause-answered
returns-in-Ok-clause-answered g c = c.in-Ok.ensures.answered
