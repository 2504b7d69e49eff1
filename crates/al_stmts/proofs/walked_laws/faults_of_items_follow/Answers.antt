use Rattle.al_stmts.proofs.Behind.{part}
use Rattle.al_stmts.specs.Walking.{item_walked, items_walked}
use Rattle.al_stmts.proofs.walked_laws.faults_of_items_follow.Goals as goal

pub returns : goal.returns
returns g c = λ R h i is. part (item_walked R h i) (items_walked R (item_walked R h i).0 is)
