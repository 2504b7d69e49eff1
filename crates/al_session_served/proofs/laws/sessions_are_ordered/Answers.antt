use Rattle.al_session_served.proofs.Orders.{sessions_are_ordered}
use Rattle.al_session_served.proofs.laws.sessions_are_ordered.Goals as goal

pub returns : goal.returns
returns g c = sessions_are_ordered g.L.UnitLibrary.meaning
