use Rattle.al_instr.specs.declared.numbers.Protected.TheVariants.{Wake}
use Rattle.al_code.proofs.Closing.{then_steps}
use Rattle.al_code.proofs.ExprLists.{guarded_steps}
use Rattle.al_code.specs.Routines.{act_code, entry_call_code}
use Rattle.al_code.proofs.protected.emit_woken.Goals as goal

pub returns : goal.returns
returns c =
    guarded_steps c.args.out.now c.emit_unless_zero.new.out c.emit_act.new.out c.close.new.self c.leaving-first.result _ c.leaving-first.ensures c.in_ok-emit_unless_zero.ensures
    (then_steps c.emit_unless_zero.new.out c.emit_entry_call.new.out c.emit_act.new.out (entry_call_code c.args.entry.now) (act_code Wake c.args.object.now) c.in_ok-emit_entry_call.ensures c.in_ok-emit_act.ensures)
    c.in_ok-close.ensures
