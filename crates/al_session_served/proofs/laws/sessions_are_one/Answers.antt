use Rattle.al_session_served.proofs.Orders.{sessions_are_one}
use Rattle.al_session_served.proofs.laws.sessions_are_one.Goals as goal

pub returns : goal.returns
returns g c = sessions_are_one g.L.UnitLibrary.meaning g.met.L.UnitLibrary.settled
