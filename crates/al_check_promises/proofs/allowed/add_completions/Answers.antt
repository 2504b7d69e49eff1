use Rattle.al_view.specs.ViewUses.{view_uses}
use Rattle.al_check_promises.proofs.Gained.{gains_more}
use Rattle.al_check_promises.proofs.allowed.add_completions.Goals as goal

pub loop-completion-preserved : goal.loop-completion-preserved
loop-completion-preserved c =
    gains_more (λ c. view_uses c.view) c.args.set.now c.loop-completion.set c.add_shown.new.set c.args.completions.now c.loop-completion.completion-index c.completion-item.result
    c.loop-completion.invariant c.in_ok-add_shown.ensures c.completion-item.is c.loop-completion-test.true
