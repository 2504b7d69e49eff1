use Rattle.std.proofs.Common.{refl, sym, ap, ◌∙◌, arith}
use Rattle.al_decl.specs.Checking.{with_progress, with_scope}
use Rattle.al_decl.specs.declared.env.Environment.{Environment}
use Rattle.al_decl_protected.specs.Checks.{listed}
use Rattle.al_decl_protected.proofs.Inner.{stays_then, stays_there}
use Rattle.al_decl_protected.proofs.Lists.{operations_end, operations_more, operations_stop}
use Rattle.al_decl_protected.proofs.operation.check_operations.Goals as goal

pub loop-text-init : goal.loop-text-init
loop-text-init g c = record { asked = refl; answered = λ t h. (h, refl); outer = stays_there c.args.env.now.scope; rest = refl; depth = refl }

pub loop-text-preserved : goal.loop-text-preserved
loop-text-preserved g c =
    let i = c.loop-text.invariant in
    let step = c.in_ok-check_operation.ensures in
    let env = c.check_operation.new.env in
    let operations = c.check_operation.new.operations in
    record {
      asked = c.check_operation.ensures.asked ∙ i.asked;
      answered = λ t h. let made = step.answered t h in
          let before = i.answered t made.0 in
          let R = g.R.PartAnalyzer.reading c.args.analyzer.now t in
          let right = ap (listed env operations) (sym c.in-Ok.is) ∙ made.1 in
          (before.0, operations_more R t c.loop-text.env c.args.object.now c.loop-text.operations c.args.texts.now c.loop-text.text-index c.text-item.result (env, operations) (omega arith) c.text-item.is right ∙ before.1);
      outer = stays_then _ _ _ i.outer step.outer;
      rest = step.rest ∙ ap (λ (h : Environment). with_progress (with_scope h env.scope) env.progress) i.rest;
      depth = step.depth ∙ i.depth;
    }

pub returns-in-Err-clause-answered : goal.returns-in-Err-clause-answered
returns-in-Err-clause-answered g c t h =
    let made = c.in_ok-check_operation.ensures.answered t h in
    let before = c.loop-text.invariant.answered t made.0 in
    let R = g.R.PartAnalyzer.reading c.args.analyzer.now t in
    let wrong = ap (listed c.check_operation.new.env c.check_operation.new.operations) (sym c.in-Err.is) ∙ made.1 in
    (before.0, operations_stop R t c.loop-text.env c.args.object.now c.loop-text.operations c.args.texts.now c.loop-text.text-index c.text-item.result c.in-Err.fault (omega arith) c.text-item.is wrong ∙ before.1)

pub returns-in-Err-clause-outer : goal.returns-in-Err-clause-outer
returns-in-Err-clause-outer g c = stays_then _ _ _ c.loop-text.invariant.outer c.in_ok-check_operation.ensures.outer

pub returns-in-Err-clause-rest : goal.returns-in-Err-clause-rest
returns-in-Err-clause-rest g c =
    let env = c.check_operation.new.env in
    c.in_ok-check_operation.ensures.rest ∙ ap (λ (h : Environment). with_progress (with_scope h env.scope) env.progress) c.loop-text.invariant.rest

pub returns-clause-answered : goal.returns-clause-answered
returns-clause-answered g c t h =
    let before = c.loop-text.invariant.answered t h in
    let R = g.R.PartAnalyzer.reading c.args.analyzer.now t in
    (before.0, operations_end R t c.loop-text.env c.args.object.now c.loop-text.operations c.args.texts.now c.loop-text.text-index (omega arith) ∙ before.1)
