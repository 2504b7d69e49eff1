use Rattle.al_decl.proofs.homograph.fixed_duplicates.Goals as goal

pub returns-clause-answered : goal.returns-clause-answered
returns-clause-answered g c = rw c.in_ok-view.ensures at c.duplicates.ensures.answered
