use Rattle.std.proofs.Common.{◌≡◌, ◌∙◌, ◌-◌, ◌++◌, suc, arith}
use Rattle.al_check_start.specs.Subunits.{stubs_out}
use Rattle.al_check_start.proofs.Steps.{stubs-ended, stubs-enough, stubs-outward}
use Rattle.al_check_start.proofs.stub.add_stubs.Goals as goal

pub loop-left-preserved : goal.loop-left-preserved
loop-left-preserved g c = record {
  asked = c.in_ok-next.ensures.asked ∙ c.loop-left.invariant.asked;
  answered = λ t h.
      let outer = c.in_ok-next.ensures.answered t h in
      let inner = c.loop-left.invariant.answered t outer.0 in
      let left : c.loop-left.left ≡ suc (c.loop-left.left - 1) = omega arith in (
        inner.0,
        stubs-outward t c.loop-left.left (c.loop-left.left - 1) c.loop-left.stub c.outward.new.stub c.in-Some.unit c.loop-left.next c.in_ok-next.next c.loop-left.parts.items c.outward.new.parts.items
            (c.args.parts.now.items ++ stubs_out t c.args.most c.args.stub.now c.args.next) left c.in-Some.is c.in_ok-next.ensures.parts c.in_ok-next.ensures.stub outer.1 inner.1,
      );
}

pub returns-in_default-clause-answered : goal.returns-in_default-clause-answered
returns-in_default-clause-answered g c t h =
    let inner = c.loop-left.invariant.answered t h in
    (inner.0, stubs-ended t c.loop-left.left c.loop-left.stub c.loop-left.next c.loop-left.parts.items (c.args.parts.now.items ++ stubs_out t c.args.most c.args.stub.now c.args.next) c.in_default.is inner.1)

pub returns-clause-answered : goal.returns-clause-answered
returns-clause-answered g c t h =
    let inner = c.loop-left.invariant.answered t h in
    (inner.0, stubs-enough t c.loop-left.left c.loop-left.stub c.loop-left.next c.loop-left.parts.items (c.args.parts.now.items ++ stubs_out t c.args.most c.args.stub.now c.args.next) (omega arith) inner.1)
