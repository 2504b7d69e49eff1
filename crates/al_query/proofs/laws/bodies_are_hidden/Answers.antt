use Rattle.al_query.proofs.BodyLemmas.{bodies-hidden}
use Rattle.al_query.proofs.laws.bodies_are_hidden.Goals as goal

pub returns : goal.returns
returns c = bodies-hidden
