use Rattle.al_check_promises.proofs.Joined.{gained}
use Rattle.al_check_promises.proofs.allowed.shown_of.Goals as goal

pub returns : goal.returns
returns c = gained c.new-shown.result c.add_all_shown.new.set _ c.new-shown.ensures c.in_ok-add_all_shown.ensures
