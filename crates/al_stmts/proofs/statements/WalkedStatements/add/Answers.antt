use Rattle.al_stmts.proofs.Joined.{joined_as, on_ok}
use Rattle.al_stmts.specs.WalkedViews.{all_model, one_model}
use Rattle.al_stmts.proofs.statements.WalkedStatements.add.Goals as goal

pub returns : goal.returns
unfolding all_model one_model
returns c = on_ok c.append.result _ _ (λ bodies. joined_as (all_model c.args.self.now) (one_model c.args.one) _ _ c.in_ok-add.ensures bodies) c.append.ensures
