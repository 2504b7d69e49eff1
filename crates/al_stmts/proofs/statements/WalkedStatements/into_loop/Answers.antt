use Rattle.al_stmts.specs.Steps.{loop_of}
use Rattle.al_stmts.proofs.Joined.{walked_by}
use Rattle.al_stmts.specs.WalkedViews.{all_model, one_model}
use Rattle.al_stmts.proofs.statements.WalkedStatements.into_loop.Goals as goal

pub returns : goal.returns
unfolding all_model one_model loop_of
returns c = walked_by _ _ _ c.in_ok-checked.ensures
