-- What the terms of complete contexts are: their labelled trees, or what is wrong with them (ARM 8.6).
use Rattle.std.specs.Prelude.{List, Option, None, Result, Ok, Err}
use Rattle.std.specs.Option.{option_and_then, option_map_or}
use Rattle.al_base.specs.declared.place.Place.{Place}
use Rattle.al_overload.specs.Labelling.{Label}
use Rattle.al_base_fault.specs.Judging.{next, unless}
use Rattle.al_base_fault.specs.declared.fault.Fault.{Fault}
use Rattle.al_overload.specs.Meanings.{nothing_fits}
use Rattle.al_overload.specs.declared.context.Context.{Context}
use Rattle.al_overload.specs.declared.context.Context.TheVariants as contexts
use Rattle.al_overload.specs.Places.{first_place}
use Rattle.al_overload.specs.Terms.{TermTree, TermTree as t}
use Rattle.al_view_typed.specs.ExpressionTrees.{ActualTree, CallTree, TypedTree}
use Rattle.al_view.specs.declared.symbol.Symbol.{Symbol}
use Rattle.al_view.specs.declared.types.TypeView.{TypeView}
use Rattle.al_view.specs.declared.view.SubprogramView.{SubprogramView}
use Rattle.al_overload.specs.Interpreting.{interpreted}
use Rattle.al_overload.specs.Parts.{declared_under}
use Rattle.al_overload.specs.declared.everywhere.Predefined.{Predefined}
use Rattle.al_overload.specs.declared.part.Nominal.{Nominal}
use Rattle.al_overload_nodes.specs.Calls.{call_made, unless_variable}
use Rattle.al_overload_nodes.specs.Gathering.{Parts, no_parts}
use Rattle.al_overload_nodes.specs.Variables.{variable_as}
use Rattle.al_overload_nodes.specs.Nodes.{ReadingTree, checked}
use Rattle.al_overload_nodes.specs.Operators.{picked_subprogram}
use Rattle.al_overload_nodes.specs.Readings.{actuals_read, reading}
use Rattle.al_overload_nodes.specs.Leaves.{inner}

-- The type that numbers alone have in a context: the one that it wants, or else the root type.
abbrev pub stands_at : Predefined → Context → Symbol
stands_at p (contexts.InitialValue of) = of.symbol
stands_at p contexts.NumberValue = p.root
stands_at p contexts.PairOfBounds = p.types.integer.symbol
stands_at p contexts.IntegerBound = p.root
stands_at p (contexts.BoundOf of) = of.symbol
stands_at p contexts.Condition = p.types.boolean.symbol
stands_at p contexts.Selector = p.root
stands_at p (contexts.ChoiceOf of) = of.symbol
stands_at p contexts.Moment = p.types.time.symbol
stands_at p contexts.PriorityValue = p.types.integer.symbol
stands_at p contexts.Target = p.root
stands_at p (contexts.Source of) = of.symbol
stands_at p contexts.ProcedureCall = p.root
stands_at p (contexts.ReturnValue of) = of.symbol
stands_at p contexts.PutArgument = p.root
stands_at p (contexts.ImageArgument of) = of.symbol
stands_at p (contexts.ConversionOperand target) = p.root
stands_at p (contexts.QualifiedOperand of) = of.symbol

-- A context's term, whose types are among these: E402 or E403 at its first token if it has no interpretation, or
-- several; the faults of contexts inside it; E405, E406 and E604 of the whole.
abbrev pub term_read : Predefined → Option Symbol → Context → Option Nominal → List TypeView → TermTree → ReadingTree
term_read p own context allowed types term =
    inner (λ l. reading p own term l types (stands_at p context)) (interpreted p context allowed term)

abbrev pub term_checked : Predefined → Option Symbol → Context → Option Nominal → List TypeView → TermTree → Result TypedTree Fault
term_checked p own context allowed types term = checked (term_read p own context allowed types term)

-- the target of an assignment: E406 if it is no name of a variable
abbrev pub target_labelled : TermTree → ReadingTree → Result Label Fault → Result TypedTree Fault
target_labelled term r (Ok label) = unless (unless_variable (variable_as term label) (first_place term)) (checked r)
target_labelled term r (Err fault) = Err fault

abbrev pub target_checked : Predefined → Option Symbol → List TypeView → TermTree → Result TypedTree Fault
target_checked p own types term =
    target_labelled term (term_read p own contexts.Target None types term) (interpreted p contexts.Target None term)

-- the call of a procedure or an entry, whose actual parameters were read
abbrev pub call_checked : Option Symbol → Place → SubprogramView → Parts ActualTree → Result CallTree Fault
call_checked own place s actuals = unless actuals.failure (call_made own place s actuals)

abbrev pub call_of : Option Symbol → Place → (SubprogramView → Parts ActualTree) → Option SubprogramView → Result CallTree Fault
call_of own place actuals s = option_map_or (λ (x : SubprogramView). call_checked own place x (actuals x)) s (Err (nothing_fits place))

abbrev pub call_read : Predefined → Option Symbol → TermTree → Label → Result CallTree Fault
call_read p own (t.NamedTerm place visible) label = call_of own place (λ s. no_parts) (picked_subprogram visible label)
call_read p own (t.AppliedTerm prefix arguments) label =
    call_of own (first_place prefix) (λ s. actuals_read p own s label 0 no_parts arguments)
    (option_and_then (λ visible. picked_subprogram visible label) (declared_under prefix))
call_read p own term label = Err (nothing_fits (first_place term))

abbrev pub statement_checked : Predefined → Option Symbol → TermTree → Result CallTree Fault
statement_checked p own term = next (interpreted p contexts.ProcedureCall None term) (call_read p own term)
