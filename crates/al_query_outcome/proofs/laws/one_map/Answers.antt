use Rattle.al_query_outcome.proofs.Only.{only, solved}
use Rattle.al_query_outcome.proofs.laws.one_map.Goals as goal

pub returns-clause-solves : goal.returns-clause-solves
returns-clause-solves g meaning s is keeps = solved meaning s is keeps

pub returns-clause-only : goal.returns-clause-only
returns-clause-only g meaning s is keeps f h sf sh u = only meaning s is keeps f h sf sh u
