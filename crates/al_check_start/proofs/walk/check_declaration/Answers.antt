use Rattle.al_check_start.proofs.walk.check_declaration.Goals as goal

pub returns-in-Common-clause-answered : goal.returns-in-Common-clause-answered
returns-in-Common-clause-answered g c = rw c.in-Common.is c.declared_item.ensures.answered

pub returns-in-Subprogram-clause-answered : goal.returns-in-Subprogram-clause-answered
returns-in-Subprogram-clause-answered g c = rw c.in-Subprogram.is c.subprogram_item.ensures.answered

pub returns-in-Task-clause-answered : goal.returns-in-Task-clause-answered
returns-in-Task-clause-answered g c = rw c.in-Task.is c.task_item.ensures.answered

pub returns-in-Protected-clause-answered : goal.returns-in-Protected-clause-answered
returns-in-Protected-clause-answered g c = rw c.in-Protected.is c.object_item.ensures.answered
