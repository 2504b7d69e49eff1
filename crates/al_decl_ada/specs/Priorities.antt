-- The expression of a priority must be static, as others (ARM D.1(17)).
use Rattle.std.specs.Prelude.{◌≡◌, ◌⊎◌, [], Some, None, Ok, Err}
use Rattle.al_base_fault.specs.Faults.{fault_at, first}
use Rattle.al_base_fault.specs.declared.check_rule.CheckRule.TheVariants.{NotStatic}
use Rattle.al_base_fault.specs.declared.fault.Fault.{Fault}
use Rattle.al_overload.specs.Interpreting.{interpreted}
use Rattle.al_overload.specs.Labelling.{Label}
use Rattle.al_overload.specs.Places.{first_place}
use Rattle.al_overload.specs.Terms.{TermTree}
use Rattle.al_overload.specs.declared.context.Context.TheVariants as contexts
use Rattle.al_overload_nodes.specs.Contexts.{term_read}
use Rattle.al_overload_nodes.specs.Nodes.{checked}
use Rattle.al_overload_nodes.specs.Static.{unless_static}
use Rattle.al_overload_values.specs.Surroundings.{Surroundings}
use Rattle.al_overload_values.specs.TextsAt.{context_with_at}
use Rattle.al_query.specs.Reads.{Table}
use Rattle.al_tree_syntax.specs.ExpressionTrees.{ExpressionTree}
use Rattle.al_decl_ada.specs.AdaPartReading.{priority_at}

-- if the whole has its interpretation and isn't static, E304 is reported at its first token, or a fault of a context inside it that comes before
-- that: no fault further on hides it
abbrev pub NoFaultInsideHidesIt : Type 0
NoFaultInsideHidesIt =
    (t : Table) (s : Surroundings) (x : ExpressionTree) (term : TermTree) (label : Label)
    → context_with_at t s.place s.packages s.predefined s.own x ≡ Ok (term, None)
    → interpreted s.predefined contexts.PriorityValue None term ≡ Ok label
    → unless_static (first_place term) (term_read s.predefined s.own contexts.PriorityValue None [] term).known ≡ Some (fault_at (first_place term) NotStatic)
    → (priority_at t s x ≡ Err (fault_at (first_place term) NotStatic))
    ⊎ ((inside : Fault)
    × (checked (term_read s.predefined s.own contexts.PriorityValue None [] term) ≡ Err inside)
    × (priority_at t s x ≡ Err (first (fault_at (first_place term) NotStatic) inside)))
