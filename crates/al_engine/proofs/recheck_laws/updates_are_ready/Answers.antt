use Rattle.al_engine.proofs.ReadyLemmas.{updates_are_ready}
use Rattle.al_engine.proofs.recheck_laws.updates_are_ready.Goals as goal

pub returns : goal.returns
returns c = updates_are_ready
