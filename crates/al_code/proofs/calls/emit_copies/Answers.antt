use Rattle.std.proofs.Common.{List, sym, ap, ◌∙◌, map, arith}
use Rattle.al_view_typed.specs.ExpressionViews.{actual_model, actuals_of}
use Rattle.al_view_typed.specs.declared.expression.Actual.{Actual}
use Rattle.al_code.specs.Written.{written}
use Rattle.al_code.specs.Templates.{copies_code}
use Rattle.al_code.proofs.Copies.{copied_more, drop_all}
use Rattle.al_code.proofs.Writing.{written_nothing}
use Rattle.al_code.proofs.calls.emit_copies.Goals as goal

pub loop-rest-init : goal.loop-rest-init
loop-rest-init c = record {
  within = omega arith;
  now = sym (ap (λ (ys : List Actual). written c.args.out.now (copies_code (actuals_of (map actual_model ys)))) (drop_all c.args.actuals.now) ∙ written_nothing c.args.out.now);
}

pub loop-rest-preserved : goal.loop-rest-preserved
loop-rest-preserved c = record {
  within = omega arith;
  now = copied_more c.args.out.now c.loop-rest.out c.emit_copy.new.out c.args.actuals.now c.loop-rest.rest c.index-actuals-rest.result (omega arith) c.loop-rest.invariant.within c.index-actuals-rest.is c.loop-rest.invariant.now c.in_ok-emit_copy.ensures;
}
