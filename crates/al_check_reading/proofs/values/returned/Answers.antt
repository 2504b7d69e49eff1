use Rattle.std.proofs.Common.{ℕ, Err, Option, ap, ◌∙◌}
use Rattle.al_base_fault.specs.declared.fault.Fault.{Fault}
use Rattle.al_tree.specs.ExpressionViews.{expression_model}
use Rattle.al_view_typed.specs.ExpressionTrees.{TypedTree}
use Rattle.al_overload_values.specs.Surroundings.{Surroundings}
use Rattle.al_overload_values.specs.ValuesAt.{result_at}
use Rattle.al_overload_values.specs.Words.{Worded}
use Rattle.al_view.specs.declared.view.SubtypeView.{SubtypeView}
use Rattle.al_check_reading.specs.ValuesHere.{result_from}
use Rattle.al_check_reading.proofs.Composed.{if_ok}
use Rattle.al_check_reading.proofs.values.returned.Goals as goal

abbrev faulty : ℕ → Fault → Worded TypedTree
faulty word f = (word, Err f)

pub returns-in-Some-clause-answered : goal.returns-in-Some-clause-answered
returns-in-Some-clause-answered g c =
    if_ok c.result_at.result _ _
    (λ checked answered t h.
    let read = answered t h in
    let state = c.args.state.now in (
      read.0,
      read.1
          ∙ ap (λ (s : Surroundings). result_at t s c.in-Some.of.now (expression_model c.args.expression.now) c.args.word.now) c.site.ensures
          ∙ ap (λ (of : Option SubtypeView). result_from t state (expression_model c.args.expression.now) c.args.word.now of) c.in-Some.ensures,
    ))
    c.result_at.ensures.answered

pub returns-in-None-clause-answered : goal.returns-in-None-clause-answered
returns-in-None-clause-answered g c t h = (
  h,
  ap (λ (f : Fault). faulty c.args.word.now f) c.not_yet_fault.ensures
      ∙ ap (λ (of : Option SubtypeView). result_from t c.args.state.now (expression_model c.args.expression.now) c.args.word.now of) c.in-None.ensures,
)
