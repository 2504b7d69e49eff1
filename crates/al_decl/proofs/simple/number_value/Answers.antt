use Rattle.std.proofs.Common.{Result, ap, ◌∙◌}
use Rattle.al_decl_judged.specs.StaticPieces.{static_of}
use Rattle.al_base_fault.specs.Judging.{next}
use Rattle.al_base_fault.specs.declared.fault.Fault.{Fault}
use Rattle.al_view_typed.specs.ExpressionTrees.{TypedTree}
use Rattle.al_decl.proofs.simple.number_value.Goals as goal

pub returns-clause-answered : goal.returns-clause-answered
returns-clause-answered g c t h =
    let answered = c.in_ok-value.ensures.answered t h in
    (answered.0, c.static_value.ensures ∙ ap (λ (v : Result TypedTree Fault). next v static_of) answered.1)
