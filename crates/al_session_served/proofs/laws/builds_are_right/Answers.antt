use Rattle.al_session_served.proofs.Orders.{builds_are_right}
use Rattle.al_session_served.proofs.laws.builds_are_right.Goals as goal

pub returns : goal.returns
returns g c = builds_are_right g.L.UnitLibrary.meaning
