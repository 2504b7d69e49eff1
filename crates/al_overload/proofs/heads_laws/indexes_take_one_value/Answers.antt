use Rattle.al_overload.proofs.LawLemmas.{indexes_take_one_value}
use Rattle.al_overload.proofs.heads_laws.indexes_take_one_value.Goals as goal

pub returns : goal.returns
returns c = indexes_take_one_value
