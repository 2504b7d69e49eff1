use Rattle.al_bind.proofs.Obeys.{order_obeys}
use Rattle.al_bind.proofs.order_laws.order_obeys.Goals as goal

pub returns : goal.returns
returns c = order_obeys
