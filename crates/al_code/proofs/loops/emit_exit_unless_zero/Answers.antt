use Rattle.al_code.proofs.ExprLists.{guarded_steps}
use Rattle.al_code.specs.Loops.{exit_code}
use Rattle.al_code.proofs.loops.emit_exit_unless_zero.Goals as goal

pub returns : goal.returns
returns c =
    guarded_steps c.args.out.now c.emit_unless_zero.new.out c.emit_exit.new.out c.close.new.self c.leaving-first.result (exit_code c.args.loops) c.leaving-first.ensures
    c.in_ok-emit_unless_zero.ensures c.in_ok-emit_exit.ensures c.in_ok-close.ensures
