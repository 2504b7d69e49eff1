use Rattle.std.proofs.Common.{Result, ap, ◌∙◌}
use Rattle.al_base_fault.specs.declared.fault.Fault.{Fault}
use Rattle.al_tree.specs.DeclarationViews.{range_model}
use Rattle.al_view_typed.specs.ExpressionTrees.{TypedTree}
use Rattle.al_decl.specs.Forms.{static_pair}
use Rattle.al_decl.proofs.Chains.{if_ok}
use Rattle.al_decl.proofs.definition.integer_range.Goals as goal

pub returns-clause-answered : goal.returns-clause-answered
returns-clause-answered g c =
    if_ok c.range_to.result _ _
    (λ checked answered t h.
    let high = answered t h in
    let low = c.in_ok-low.ensures.answered t high.0 in
    let R = g.R.PartAnalyzer.reading c.args.analyzer.now t in
    (low.0, high.1 ∙ ap (λ (v : Result TypedTree Fault). static_pair v (R.bound c.args.scope.now (range_model c.args.range.now).high)) low.1))
    c.range_to.ensures.answered
