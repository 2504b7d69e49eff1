use Rattle.al_overload_nodes.proofs.ActualFaults.{milliseconds_are_like_others}
use Rattle.al_overload_nodes.proofs.laws.milliseconds_are_like_others.Goals as goal

pub returns : goal.returns
returns c = milliseconds_are_like_others
