use Rattle.al_tasks.proofs.TickLemmas.{ticks_are}
use Rattle.al_tasks.proofs.runs.ticks_between.Goals as goal

pub returns : goal.returns
returns c = ticks_are c.args.n c.args.done c.args.since c.requires.some c.requires.since c.requires.done
