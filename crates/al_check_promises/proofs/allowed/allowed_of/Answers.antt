use Rattle.al_check_promises.proofs.Joined.{allowed_by}
use Rattle.al_check_promises.proofs.allowed.allowed_of.Goals as goal

pub returns : goal.returns
returns c = allowed_by _ c.args.unit.now _ _ c.in_ok-unit.ensures c.in_ok-own.ensures c.in_ok-others.ensures
