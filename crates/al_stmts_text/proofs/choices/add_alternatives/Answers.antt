use Rattle.std.proofs.Common.{refl, ap, sym, ◌∙◌}
use Rattle.al_tree.specs.ExpressionViews.{expression_model}
use Rattle.al_stmts_text.proofs.Steps.{alternative_chosen, alternatives_chosen}
use Rattle.al_stmts_text.proofs.choices.add_alternatives.Goals as goal

pub loop-alternative-init : goal.loop-alternative-init
loop-alternative-init g c = record { asked = refl; answered = λ t h. (h, refl) }

pub loop-alternative-preserved : goal.loop-alternative-preserved
loop-alternative-preserved g c = record {
  asked = c.in_ok-add_alternative.ensures.asked ∙ c.loop-alternative.invariant.asked;
  answered = λ t h.
      let one = c.in_ok-add_alternative.ensures.answered t h in
      let before = c.loop-alternative.invariant.answered t one.0 in
      (before.0, alternative_chosen (g.R.Analyzer.reading t) (expression_model c.args.selector.now) _ _ _ _ _ _ c.args.others.now c.loop-alternative.alternative-index c.alternative-item.result one.1 before.1 c.alternative-item.is c.loop-alternative-test.true);
}

pub returns-clause-answered : goal.returns-clause-answered
returns-clause-answered g c = λ t h.
    let before = c.loop-alternative.invariant.answered t h in
    (before.0, alternatives_chosen (g.R.Analyzer.reading t) (expression_model c.args.selector.now) _ _ _ _ c.args.others.now c.loop-alternative.alternative-index before.1 c.loop-alternative-test.false)
