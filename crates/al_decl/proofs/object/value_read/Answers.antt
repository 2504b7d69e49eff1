use Rattle.std.proofs.Common.{List, Option, Some, Result, sym, ap, ◌∙◌}
use Rattle.std.specs.Prelude.{option_map}
use Rattle.al_decl_judged.specs.declared.new_object.NewObject.{NewObject}
use Rattle.al_base_fault.specs.declared.fault.Fault.{Fault}
use Rattle.al_tree.specs.ExpressionViews.{expression_model}
use Rattle.al_tree.specs.declared.expression.Expression.{Expression}
use Rattle.al_decl.specs.Forms.{first_read, value_read}
use Rattle.al_decl.proofs.Chains.{if_ok}
use Rattle.al_decl.proofs.object.value_read.Goals as goal

pub returns-in-Some-Ok-clause-answered : goal.returns-in-Some-Ok-clause-answered
returns-in-Some-Ok-clause-answered g c =
    if_ok c.first_value.result _ _
    (λ checked answered t h.
    let known = answered t h in
    let R = g.R.PartAnalyzer.reading c.args.analyzer.now t in
    let place = c.args.scope.now in
    let e = expression_model c.in-Some-Ok.value in (
      known.0,
      known.1
          ∙ ap (λ (os : List NewObject). first_read R place os e) c.as_slice.ensures
          ∙ ap (λ (r : Result (List NewObject) Fault). value_read R place r (Some e)) (sym c.in-Some-Ok.is-1)
          ∙ ap (λ (i : Option Expression). value_read R place c.args.objects.now (option_map expression_model i)) (sym c.in-Some-Ok.is-0),
    ))
    c.first_value.ensures.answered
