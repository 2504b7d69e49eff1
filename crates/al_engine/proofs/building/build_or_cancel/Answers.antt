use Rattle.al_engine.proofs.RecheckSameLemmas.{as-before}
use Rattle.al_engine.proofs.building.build_or_cancel.Goals as goal

pub returns-in-Err-clause-err : goal.returns-in-Err-clause-err
returns-in-Err-clause-err g c =
    (as-before (g.P.Answers.table c.args.predefined.now) c.args.cache.now.store c.build_read.new.cache.store c.cancel.new.self.store c.requires.ready c.in-Err.ensures.err.0 c.cancel.ensures.cancelled, c.in-Err.ensures.err.1)
