use Rattle.al_scope.proofs.SearchLemmas.{local-names}
use Rattle.al_scope.proofs.laws.local_names_ask_nothing.Goals as goal

pub returns : goal.returns
returns c = local-names
