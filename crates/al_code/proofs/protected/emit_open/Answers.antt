use Rattle.al_code.proofs.Closing.{then_steps}
use Rattle.al_code.proofs.ExprLists.{guarded_steps}
use Rattle.al_code.proofs.protected.emit_open.Goals as goal

pub returns : goal.returns
returns c =
    guarded_steps c.args.out.now c.emit_unless_zero.new.out c.emit_woken.new.out c.close.new.self c.leaving-first.result _ c.leaving-first.ensures c.in_ok-emit_unless_zero.ensures
    (then_steps c.emit_unless_zero.new.out c.emit_barrier.new.out c.emit_woken.new.out _ _ c.in_ok-emit_barrier.ensures c.in_ok-emit_woken.ensures)
    c.in_ok-close.ensures
