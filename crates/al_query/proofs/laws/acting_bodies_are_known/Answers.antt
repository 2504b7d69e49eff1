use Rattle.al_query.proofs.BodyLemmas.{bodies-acting}
use Rattle.al_query.proofs.laws.acting_bodies_are_known.Goals as goal

pub returns : goal.returns
returns c = bodies-acting
