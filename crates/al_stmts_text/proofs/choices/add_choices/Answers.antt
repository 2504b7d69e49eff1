use Rattle.std.proofs.Common.{refl, ap, sym, ◌∙◌}
use Rattle.std.specs.Prelude.{fold}
use Rattle.al_stmts.specs.declared.choices.AlternativeChoices.{AlternativeChoices}
use Rattle.al_tree.specs.ExpressionViews.{expression_model}
use Rattle.al_stmts_text.proofs.ChoiceFolds.{choice_step, choices_folded}
use Rattle.al_stmts_text.proofs.Loops.{ends}
use Rattle.al_stmts_text.proofs.Steps.{chosen, chosen_all}
use Rattle.al_stmts_text.proofs.choices.add_choices.Goals as goal

pub loop-choice-init : goal.loop-choice-init
loop-choice-init g c = record { asked = refl; answered = λ t h. (h, refl) }

pub loop-choice-preserved : goal.loop-choice-preserved
loop-choice-preserved g c = record {
  asked = c.in_ok-add_choice.ensures.asked ∙ c.loop-choice.invariant.asked;
  answered = λ t h.
      let one = c.in_ok-add_choice.ensures.answered t h in
      let before = c.loop-choice.invariant.answered t one.0 in
      (before.0, chosen (g.R.Analyzer.reading t) (expression_model c.args.selector.now) _ _ _ _ _ _ c.args.others.now c.loop-choice.choice-index c.choice-item.result one.1 before.1 c.choice-item.is c.loop-choice-test.true);
}

pub returns-clause-answered : goal.returns-clause-answered
returns-clause-answered g c = λ t h.
    let before = c.loop-choice.invariant.answered t h in
    (before.0, chosen_all (g.R.Analyzer.reading t) (expression_model c.args.selector.now) _ _ _ _ c.args.others.now c.loop-choice.choice-index before.1 c.loop-choice-test.false)
