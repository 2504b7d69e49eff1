use Rattle.al_tree.specs.DeclarationViews.{discrete_range_model}
use Rattle.al_tree.specs.Lexemes.{identifier_label}
use Rattle.al_stmts_text.proofs.HeadSteps.{for_headed}
use Rattle.al_stmts_text.proofs.Read.{if_ok}
use Rattle.al_stmts_text.proofs.heads.for_head.Goals as goal

pub returns-clause-answered : goal.returns-clause-answered
returns-clause-answered g c =
    if_ok c.declare_parameter.result _ _
    (λ done answered t h.
    let last = answered t h in
    let range = c.in_ok-checked.ensures.answered t last.0 in
    let entered = c.in_ok-loop_entered.ensures.answered t range.0 in
    let words = c.in_ok-words.ensures.answered t entered.0 in
    (words.0, for_headed (g.R.Analyzer.reading t) (identifier_label c.args.parameter.now) c.args.is_reverse (discrete_range_model c.args.range.now) _ _ _ _ _ _ _ words.1 entered.1 range.1 last.1))
    c.declare_parameter.ensures.answered
