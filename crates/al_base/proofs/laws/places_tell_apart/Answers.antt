use Rattle.al_base.proofs.ReservedLemmas.{places-apart}
use Rattle.al_base.proofs.laws.places_tell_apart.Goals as goal

pub returns : goal.returns
returns c = places-apart
