use Rattle.al_check_promises.proofs.Joined.{gained}
use Rattle.al_check_promises.proofs.allowed.own_of.Goals as goal

pub returns : goal.returns
returns c = gained c.new-own.result c.add_accounted.new.set _ c.new-own.ensures c.in_ok-add_accounted.ensures
