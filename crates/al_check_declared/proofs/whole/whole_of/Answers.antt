use Rattle.std.proofs.Common.{ap, ◌∙◌}
use Rattle.al_check_declared.specs.WholeHere.{own_settled}
use Rattle.al_check_declared.proofs.Composed.{if_ok, own_same}
use Rattle.al_check_declared.proofs.whole.whole_of.Goals as goal

pub returns : goal.returns
returns c =
    let s = c.args.state.now in
    if_ok c.settle_own.result _ _
    (λ effects settled. settled ∙ own_same s c.declare_subprogram.new.progress c.declare_subprogram.new.uncompleted _ ∙ ap (own_settled s) c.in_ok-checked.ensures)
    c.settle_own.ensures
