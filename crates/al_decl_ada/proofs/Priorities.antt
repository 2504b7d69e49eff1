-- E304 is reported for a priority that isn't static.
use Rattle.std.proofs.Common.{◌≡◌, ◌⊎◌, inl, inr, [], Option, Some, None, Result, Ok, Err, refl, ◌∙◌, ap}
use Rattle.al_base_fault.specs.Faults.{fault_at, first}
use Rattle.al_base_fault.specs.Judging.{next, unless}
use Rattle.al_base_fault.specs.declared.check_rule.CheckRule.TheVariants.{NotStatic}
use Rattle.al_base_fault.specs.declared.fault.Fault.{Fault}
use Rattle.al_overload.specs.Labelling.{Label}
use Rattle.al_overload.specs.Places.{first_place}
use Rattle.al_overload.specs.Terms.{TermTree}
use Rattle.al_overload.specs.declared.context.Context.TheVariants as contexts
use Rattle.al_overload_nodes.specs.Contexts.{term_read}
use Rattle.al_overload_nodes.specs.Nodes.{checked}
use Rattle.al_overload_nodes.specs.Static.{static_checked, static_term_checked}
use Rattle.al_overload_values.specs.TextsAt.{With}
use Rattle.al_view_typed.specs.ExpressionTrees.{TypedTree}
use Rattle.al_decl_ada.specs.AdaPartReading.{priority_at}
use Rattle.al_decl_ada.specs.Priorities.{NoFaultInsideHidesIt}

-- what isn't right beside what may be right
beside : (f : Fault) (r p : Result TypedTree Fault) → p ≡ unless (Some f) r → (p ≡ Err f) ⊎ ((inside : Fault) × (r ≡ Err inside) × (p ≡ Err (first f inside)))
beside f (Ok a) p is = inl is
beside f (Err g) p is = inr (g, refl, is)

pub no_fault_inside_hides_it : NoFaultInsideHidesIt
no_fault_inside_hides_it t s x term label there whole isnt =
    let r = term_read s.predefined s.own contexts.PriorityValue None [] term in
    let place = first_place term in
    let judged : With TermTree → Result TypedTree Fault = λ w. unless w.1 (static_term_checked s.predefined s.own contexts.PriorityValue [] w.1 w.0) in
    beside (fault_at place NotStatic) (checked r) (priority_at t s x)
    (ap (λ (c : Result (With TermTree) Fault). next c judged) there
    ∙ ap (λ (l : Result Label Fault). static_checked term None r l) whole
    ∙ ap (λ (o : Option Fault). unless o (checked r)) isnt)
