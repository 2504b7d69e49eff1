use Rattle.al_stmts_right_choices.proofs.Deciding.{decides}
use Rattle.al_stmts_right_choices.proofs.laws.the_test_decides.Goals as goal

pub returns : goal.returns
returns c = decides
