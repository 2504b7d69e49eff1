use Rattle.std.proofs.Common.{ℕ, ap, ◌∙◌}
use Rattle.al_tree.specs.ExpressionViews.{expression_model}
use Rattle.al_check_here.specs.Stacks.{innermost}
use Rattle.al_check_reading.specs.ValuesHere.{result_from, result_of}
use Rattle.al_check_reading.proofs.Composed.{worded-is}
use Rattle.al_check_reading.proofs.values.result_value.Goals as goal

pub returns-clause-answered : goal.returns-clause-answered
returns-clause-answered g c t h =
    let answered = c.in_ok-checked.ensures.answered t h in
    let state = c.args.state.now in (
      answered.0,
      worded-is state c.set_word.new.self c.returned.new.word _ _ c.set_word.ensures
          (answered.1 ∙ ap (λ (w : ℕ). result_from t state (expression_model c.args.expression.now) w (result_of (innermost state.bodies))) c.word-word.ensures),
    )
