use Rattle.al_query_outcome.proofs.Defined.{accounted, all-defined}
use Rattle.al_query_outcome.proofs.laws.all_defined.Goals as goal

pub returns-clause-used : goal.returns-clause-used
returns-clause-used g = λ meaning s is keeps main f solves symbols whole. all-defined meaning s is keeps main f solves symbols whole

pub returns-clause-accounted : goal.returns-clause-accounted
returns-clause-accounted g = λ meaning s is keeps main f solves symbols whole. accounted meaning s is keeps main f solves symbols whole
