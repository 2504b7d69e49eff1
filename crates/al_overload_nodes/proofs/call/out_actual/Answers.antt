use Rattle.std.proofs.Common.{◌≡◌, Option, Result, Err, sym, ap, ◌∙◌}
use Rattle.al_base_fault.specs.Judging.{map_ok, next, unless}
use Rattle.al_base_fault.specs.declared.fault.Fault.{Fault}
use Rattle.al_overload_nodes.specs.Calls.{unless_variable, variable_actual}
use Rattle.al_overload_nodes.proofs.Seen.{unless_model}
use Rattle.al_overload_nodes.proofs.call.out_actual.Goals as goal
use Rattle.al_view_typed.specs.ExpressionTrees.{TypedTree}
use Rattle.al_view_typed.specs.ExpressionViews.{typed_model}

pub returns-in-Err : goal.returns-in-Err
returns-in-Err c =
    let told : unless (unless_variable c.args.is_variable c.args.place) c.args.value ≡ Err c.in-Err.fault =
    ap (λ (d : Option Fault). unless d c.args.value) (sym c.unless_variable.ensures) ∙ sym c.unless.ensures ∙ c.in-Err.is in
    sym (ap (λ (r : Result TypedTree Fault). next r (variable_actual c.args.mode c.args.range))
    (unless_model typed_model (unless_variable c.args.is_variable c.args.place) c.args.value ∙ ap (map_ok typed_model) told))
