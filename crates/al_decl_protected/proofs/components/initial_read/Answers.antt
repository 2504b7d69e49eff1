use Rattle.std.proofs.Common.{Option, Some, Result, sym, ap, ◌∙◌}
use Rattle.std.specs.Prelude.{option_map}
use Rattle.al_base_fault.specs.declared.fault.Fault.{Fault}
use Rattle.al_tree.specs.ExpressionViews.{expression_model}
use Rattle.al_tree.specs.declared.expression.Expression.{Expression}
use Rattle.al_view.specs.declared.view.SubtypeView.{SubtypeView}
use Rattle.al_decl_protected.specs.Components.{initial_read}
use Rattle.al_decl_protected.proofs.Outcomes.{if_ok}
use Rattle.al_decl_protected.proofs.components.initial_read.Goals as goal

pub returns-in-Some-Ok-clause-answered : goal.returns-in-Some-Ok-clause-answered
returns-in-Some-Ok-clause-answered g c =
    if_ok c.value_read.result _ _
    (λ checked answered t h.
    let known = answered t h in
    let R = g.R.PartAnalyzer.reading c.args.analyzer.now t in
    let place = c.args.scope.now in
    let e = expression_model c.in-Some-Ok.value in (
      known.0,
      known.1
          ∙ ap (λ (r : Result SubtypeView Fault). initial_read R place r (Some e)) (sym c.in-Some-Ok.is-1)
          ∙ ap (λ (i : Option Expression). initial_read R place c.args.of.now (option_map expression_model i)) (sym c.in-Some-Ok.is-0),
    ))
    c.value_read.ensures.answered
