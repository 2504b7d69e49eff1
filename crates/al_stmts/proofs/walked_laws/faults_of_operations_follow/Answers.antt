use Rattle.al_stmts.proofs.Behind.{part}
use Rattle.al_stmts.specs.Walking.{operation_walked, operations_walked}
use Rattle.al_stmts.proofs.walked_laws.faults_of_operations_follow.Goals as goal

pub returns : goal.returns
returns g c = λ R h o os. part (operation_walked R h o) (operations_walked R (operation_walked R h o).0 os)
