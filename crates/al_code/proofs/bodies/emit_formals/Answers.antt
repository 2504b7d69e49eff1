use Rattle.std.proofs.Common.{sym}
use Rattle.al_code.specs.Routines.{formal_code}
use Rattle.al_code.proofs.Writing.{written_nothing, written_all}
use Rattle.al_code.proofs.Lists.{written_copied}
use Rattle.al_code.proofs.bodies.emit_formals.Goals as goal

pub loop-formal-init : goal.loop-formal-init
loop-formal-init c = sym (written_nothing c.args.out.now)

pub loop-formal-preserved : goal.loop-formal-preserved
loop-formal-preserved c =
    written_copied (formal_code) c.args.out.now c.loop-formal.out c.emit_formal.new.out c.args.formals.now c.loop-formal.formal-index _
    c.loop-formal.invariant c.in_ok-emit_formal.ensures c.loop-formal-test.true

pub returns : goal.returns
returns c = written_all (formal_code) c.args.out.now c.loop-formal.out c.args.formals.now c.loop-formal.formal-index c.loop-formal.invariant c.loop-formal-test.false
