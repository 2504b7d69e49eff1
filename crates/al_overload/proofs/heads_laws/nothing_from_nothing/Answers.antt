use Rattle.al_overload.proofs.LawLemmas.{nothing_from_nothing}
use Rattle.al_overload.proofs.heads_laws.nothing_from_nothing.Goals as goal

pub returns : goal.returns
returns c = nothing_from_nothing
