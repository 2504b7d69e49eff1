use Rattle.al_tasks.proofs.WorldRunLemmas.{ran_events}
use Rattle.al_tasks.proofs.laws.runs_are_events.Goals as goal

pub returns : goal.returns
returns c p steps n since w = ran_events p steps n since w
