use Rattle.al_tree.specs.ExpressionViews.{expression_model}
use Rattle.al_view_typed.specs.ExpressionViews.{typed_model}
use Rattle.al_stmts_text.proofs.ChoosingSteps.{are_right}
use Rattle.al_stmts_text.proofs.Read.{if_ok}
use Rattle.al_stmts_text.proofs.choices.right_choices.Goals as goal

pub returns-in_ok-whole-in-Ok-clause-answered : goal.returns-in_ok-whole-in-Ok-clause-answered
returns-in_ok-whole-in-Ok-clause-answered g c =
    rw c.in-Ok.is
    (if_ok c.are_right.result _ _
    (λ done answered t h.
    let right = rw c.as_slice.ensures at answered t h in
    let whole = c.in_ok-whole-in-Ok.ensures.answered t right.0 in
    (whole.0, are_right (g.R.Analyzer.reading t) (expression_model c.args.selector.now) _ _ _ _ _ _ (typed_model c.in-Ok.typed) c.args.choices.now whole.1 c.selector_of.ensures right.1))
    c.are_right.ensures.answered)
