use Rattle.al_code.proofs.Closing.{then_steps}
use Rattle.al_code.proofs.ExprLists.{guarded_steps}
use Rattle.al_code.proofs.protected.emit_passed.Goals as goal

pub returns : goal.returns
returns c =
    guarded_steps c.args.out.now c.emit_unless_zero.new.out c.emit_sized.new.out c.close.new.self c.leaving-first.result _ c.leaving-first.ensures c.in_ok-emit_unless_zero.ensures
    (then_steps c.emit_unless_zero.new.out c.emit_plain.new.out c.emit_sized.new.out _ _
    (then_steps c.emit_unless_zero.new.out c.emit_entry_call.new.out c.emit_plain.new.out _ _ c.in_ok-emit_entry_call.ensures c.in_ok-emit_plain.ensures) c.in_ok-emit_sized.ensures)
    c.in_ok-close.ensures
