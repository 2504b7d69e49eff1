use Rattle.std.proofs.Common.{Result, ap, ◌∙◌}
use Rattle.al_base_fault.specs.Judging.{map_ok}
use Rattle.al_base_fault.specs.declared.fault.Fault.{Fault}
use Rattle.al_view_typed.specs.ExpressionTrees.{TypedTree}
use Rattle.al_view_typed.specs.ExpressionViews.{typed_model}
use Rattle.al_decl.specs.Forms.{static_pair}
use Rattle.al_decl.proofs.definition.range_to.Goals as goal

pub returns-in-Ok-clause-answered : goal.returns-in-Ok-clause-answered
returns-in-Ok-clause-answered g c t h =
    let answered = c.in-Ok.ensures.answered t h in
    (answered.0, c.static_pair.ensures ∙ ap (λ (v : Result TypedTree Fault). static_pair (map_ok typed_model c.args.low) v) answered.1)
