use Rattle.al_stmts.proofs.Behind.{walked}
use Rattle.al_stmts.specs.Walking.{more_walked, statement_walked}
use Rattle.al_stmts.proofs.walked_laws.faults_of_statements_follow.Goals as goal

pub returns : goal.returns
returns g c = λ R r h s more. walked (statement_walked R r h s) (more_walked R r (statement_walked R r h s).0 more)
