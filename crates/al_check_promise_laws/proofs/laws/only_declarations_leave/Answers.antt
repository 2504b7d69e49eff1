use Rattle.al_check_promise_laws.proofs.LeftLaws.{only-declarations-leave}
use Rattle.al_check_promise_laws.proofs.laws.only_declarations_leave.Goals as goal

pub returns : goal.returns
returns c = only-declarations-leave
