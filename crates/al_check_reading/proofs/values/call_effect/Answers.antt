use Rattle.std.proofs.Common.{ℕ, ap, ◌∙◌}
use Rattle.al_tree.specs.ExpressionViews.{expression_model}
use Rattle.al_stmts_ranges.specs.PerformedAt.{call_effect_at}
use Rattle.al_overload_values.specs.Surroundings.{Surroundings}
use Rattle.al_check_reading.specs.ValuesHere.{surroundings}
use Rattle.al_check_reading.proofs.Composed.{worded-is}
use Rattle.al_check_reading.proofs.values.call_effect.Goals as goal

pub returns-clause-answered : goal.returns-clause-answered
returns-clause-answered g c t h =
    let answered = c.in_ok-checked.ensures.answered t h in
    let state = c.args.state.now in (
      answered.0,
      worded-is state c.set_word.new.self c.call_effect_at.new.word _ _ c.set_word.ensures
          (answered.1
          ∙ ap (λ (s : Surroundings). call_effect_at t s (expression_model c.args.expression.now) c.word-word.result) c.site.ensures
          ∙ ap (λ (w : ℕ). call_effect_at t (surroundings state) (expression_model c.args.expression.now) w) c.word-word.ensures),
    )
