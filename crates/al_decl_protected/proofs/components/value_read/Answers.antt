use Rattle.std.proofs.Common.{Some, Result, ap, ◌∙◌}
use Rattle.al_base_fault.specs.Judging.{map_ok}
use Rattle.al_base_fault.specs.declared.fault.Fault.{Fault}
use Rattle.al_view_typed.specs.ExpressionTrees.{TypedTree}
use Rattle.al_decl_protected.proofs.components.value_read.Goals as goal

pub returns-clause-answered : goal.returns-clause-answered
returns-clause-answered g c t h =
    let value = c.in_ok-value.ensures.answered t h in
    (value.0, c.some_value.ensures ∙ ap (λ (v : Result TypedTree Fault). map_ok (λ (x : TypedTree). Some x) v) value.1)
