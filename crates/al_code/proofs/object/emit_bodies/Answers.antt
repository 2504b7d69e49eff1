use Rattle.std.proofs.Common.{sym}
use Rattle.al_view_typed.specs.UnitTrees.{body_model}
use Rattle.al_code.specs.Routines.{body_code}
use Rattle.al_code.proofs.Writing.{written_nothing, written_more}
use Rattle.al_code.proofs.Lists.{written_mapped}
use Rattle.al_code.proofs.object.emit_bodies.Goals as goal

pub loop-body-init : goal.loop-body-init
loop-body-init c = sym (written_nothing c.args.out.now)

pub loop-body-preserved : goal.loop-body-preserved
loop-body-preserved c =
    written_more (λ x. body_code (body_model x)) c.args.out.now c.loop-body.out c.emit_body.new.out c.args.bodies.now c.loop-body.body-index c.body-item.result
    c.loop-body.invariant c.in_ok-emit_body.ensures c.body-item.is c.loop-body-test.true

pub returns : goal.returns
returns c = written_mapped (body_code) body_model c.args.out.now c.loop-body.out c.args.bodies.now c.loop-body.body-index c.loop-body.invariant c.loop-body-test.false
