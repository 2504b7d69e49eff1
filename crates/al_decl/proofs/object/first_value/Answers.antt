use Rattle.std.proofs.Common.{Result, Option, Some, sym, ap, ◌∙◌}
use Rattle.al_base_fault.specs.declared.fault.Fault.{Fault}
use Rattle.al_tree.specs.ExpressionViews.{expression_model}
use Rattle.al_view_typed.specs.ExpressionTrees.{TypedTree}
use Rattle.al_decl.proofs.Chains.{first_is}
use Rattle.al_decl.proofs.object.first_value.Goals as goal

pub returns-in_ok-value-in-Some-clause-answered : goal.returns-in_ok-value-in-Some-clause-answered
returns-in_ok-value-in-Some-clause-answered g c t h =
    let answered = c.in_ok-value-in-Some.ensures.answered t h in
    let R = g.R.PartAnalyzer.reading c.args.analyzer.now t in (
      answered.0,
      ap (λ (v : Result TypedTree Fault). Some v) answered.1
          ∙ sym (first_is R c.args.scope.now c.args.objects.now c.in-Some.object.now (expression_model c.args.value.now) (sym c.in-Some.ensures.value)),
    )
