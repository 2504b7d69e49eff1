use Rattle.std.proofs.Common.{sym, ◌∙◌}
use Rattle.al_check_declared.proofs.Firsts.{body_found, body_passed, no_body}
use Rattle.al_check_declared.proofs.entry.first_barrier.Goals as goal

pub loop-body-preserved : goal.loop-body-preserved
loop-body-preserved c =
    body_passed c.args.object.now c.args.bodies.now c.loop-body.body-index c.body-item.result c.in_ok-found.found
    c.loop-body-test.true c.body-item.is c.in_ok-found.ensures (sym c.is_some.ensures ∙ c.if-is_some.false)
    ∙ c.loop-body.invariant

pub returns-then-is_some : goal.returns-then-is_some
returns-then-is_some c =
    body_found c.args.object.now c.args.bodies.now c.loop-body.body-index c.body-item.result c.in_ok-found.found
    c.loop-body-test.true c.body-item.is c.in_ok-found.ensures (sym c.is_some.ensures ∙ c.if-is_some.true)
    ∙ c.loop-body.invariant

pub returns : goal.returns
returns c = no_body c.args.object.now c.args.bodies.now c.loop-body.body-index c.loop-body-test.false ∙ c.loop-body.invariant
