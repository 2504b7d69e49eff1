use Rattle.std.proofs.Common.{ap, ◌∙◌}
use Rattle.al_check_here.specs.BodiesHere.{nested_entered}
use Rattle.al_check_here.specs.declared.state.CheckState.{CheckState}
use Rattle.al_check_declared.proofs.Composed.{on_ok}
use Rattle.al_check_declared.proofs.bodies.enter_nested_body.Goals as goal

pub returns : goal.returns
returns c = on_ok c.enter_nested.result _ _ (λ entered. entered ∙ ap (λ (x : CheckState). nested_entered x c.args.read) c.in_ok-renew_for.ensures) c.enter_nested.ensures
