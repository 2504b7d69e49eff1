-- Calls with their actual parameters (ARM 6.4).
use Rattle.std.specs.Prelude.{ℕ, ◌+◌, ◌-◌, min, Bool, true, false, codes, List, [], ◌∷◌, fold, Option, Some, None, Result, Ok, Err, if◌then◌else◌}
use Rattle.std.specs.Option.{option_map_or}
use Rattle.std.specs.Str.{bytes_eq}
use Rattle.al_base.specs.declared.place.Place.{Place}
use Rattle.al_base_fault.specs.declared.check_rule.CheckRule.TheVariants.{OwnOperation}
use Rattle.al_base_fault.specs.Faults.{fault_at}
use Rattle.al_base_fault.specs.Judging.{next, map_ok, unless}
use Rattle.al_base_fault.specs.declared.fault.Fault.{Fault}
use Rattle.al_overload.specs.Meanings.{nothing_fits}
use Rattle.al_static.specs.declared.knowledge.Known.TheVariants.{Open}
use Rattle.al_view_typed.specs.ExpressionTrees.{TypedTree, FormTree, NameTree, ActualTree, CallTree}
use Rattle.al_view_typed.specs.FormNames.{name_in as form_name}
use Rattle.al_view_typed.specs.ExpressionTrees.TypedTree.{Labelled}
use Rattle.al_view_typed.specs.ExpressionTrees.FormTree.{ConvertedForm, CallForm, ClockForm}
use Rattle.al_view_typed.specs.ExpressionTrees.ValueTree.{Checked}
use Rattle.al_view_typed.specs.ExpressionTrees.ActualTree.{InActual, VariableActual}
use Rattle.al_view_typed.specs.ExpressionTrees.CallTree.{Called}
use Rattle.al_view_typed.specs.ExpressionViews.{actuals_of}
use Rattle.al_view_typed.specs.declared.expression.Callee.{Callee}
use Rattle.al_view_typed.specs.declared.expression.Callee.TheVariants as callees
use Rattle.al_view_typed.specs.declared.label.Conversion.TheVariants.{Milliseconds}
use Rattle.al_view_typed.specs.declared.label.Labels.{Labels}
use Rattle.al_view.specs.Symbols.{same_symbol}
use Rattle.al_view.specs.declared.symbol.Symbol.{Symbol}
use Rattle.al_view.specs.declared.types.Bounds.{Bounds}
use Rattle.al_view.specs.declared.types.Subtype.{Subtype}
use Rattle.al_view.specs.declared.types.TypeView.{TypeView}
use Rattle.al_view.specs.declared.view.CallKind.{CallKind}
use Rattle.al_view.specs.declared.view.CallKind.TheVariants as calls
use Rattle.al_view.specs.declared.view.Mode.{Mode}
use Rattle.al_view.specs.declared.view.Mode.TheVariants as modes
use Rattle.al_view.specs.declared.view.ObjectPlace.{ObjectPlace}
use Rattle.al_view.specs.declared.view.ObjectPlace.TheVariants as places
use Rattle.al_view.specs.declared.view.Parameter.{Parameter}
use Rattle.al_view.specs.declared.view.SubprogramView.{SubprogramView}
use Rattle.al_static.specs.Combining.{failure_in}
use Rattle.al_overload_nodes.specs.Gathering.{Parts, with_part}
use Rattle.al_overload_nodes.specs.Names.{no_variable}
use Rattle.al_overload_nodes.specs.Nodes.{ReadingTree, misfit, node}
use Rattle.al_overload.specs.PickedTypes.{range_in, words_in}

-- ---- what is called

abbrev pub callee_of : CallKind → Symbol → Option Callee
callee_of (calls.Subprogram depth) symbol = Some (callees.Subprogram symbol depth)
callee_of calls.Protected symbol = Some (callees.Protected symbol)
callee_of calls.Entry symbol = Some (callees.Entry symbol)
callee_of calls.Predefined symbol = None
callee_of (calls.Operator of_type) symbol = None

abbrev pub more_words : List TypeView → ℕ → Parameter → ℕ
more_words types words parameter = min (words + words_in types parameter.subtype.base) (4294967296 - 1)

-- the words of all actual parameters together
abbrev pub actual_words : SubprogramView → ℕ
actual_words s = fold (more_words s.types) 0 s.profile.parameters

-- whether a flag is that of the object with this symbol
abbrev pub is_flag_of : Symbol → ObjectPlace → Bool
is_flag_of object (places.Static symbol word) = same_symbol symbol object
is_flag_of object (places.Frame depth word) = false

-- an operation of a protected object has the flag of its object
abbrev pub is_of_object : Symbol → CallKind → Option ObjectPlace → Bool
is_of_object object calls.Protected flag = option_map_or (is_flag_of object) flag false
is_of_object object calls.Entry flag = option_map_or (is_flag_of object) flag false
is_of_object object calls.Predefined flag = false
is_of_object object (calls.Subprogram depth) flag = false
is_of_object object (calls.Operator of_type) flag = false

abbrev pub is_own_of : SubprogramView → Symbol → Bool
is_own_of s object = is_of_object object s.call s.flag

-- an operation of the protected object in whose bodies the text is
abbrev pub own_fault : Option Symbol → Place → SubprogramView → Option Fault
own_fault own place s = if option_map_or (is_own_of s) own false then Some (fault_at place OwnOperation) else None

abbrev pub call_with : SubprogramView → List ActualTree → Callee → Result CallTree Fault
call_with s actuals callee = Ok (Called callee s.flag (actual_words s) (actuals_of actuals))

-- a call, whose name begins there
abbrev pub call_made : Option Symbol → Place → SubprogramView → Parts ActualTree → Result CallTree Fault
call_made own place s actuals =
    unless (own_fault own place s) (unless actuals.fault (option_map_or (call_with s actuals.items) (callee_of s.call s.symbol) (Err (nothing_fits place))))

-- ---- calls of functions

-- the only one of a list
abbrev pub sole : {A : Type 0} → List A → Option A
sole [] = None
sole (x ∷ []) = Some x
sole (x ∷ (y ∷ more)) = None

-- a span of time of so many thousandths of a second
abbrev pub span_of : Place → ActualTree → Result FormTree Fault
span_of place (InActual value) = Ok (ConvertedForm Milliseconds value)
span_of place (VariableActual name size mode formal actual slot) = Err (nothing_fits place)

abbrev pub span_form : Place → List ActualTree → Result FormTree Fault
span_form place actuals = option_map_or (span_of place) (sole actuals) (Err (nothing_fits place))

-- a fault in the actual is what is wrong, and nothing else is said of it
abbrev pub span_unless : Option Fault → Place → List ActualTree → Result FormTree Fault
span_unless (Some fault) place actuals = Err fault
span_unless None place actuals = span_form place actuals

-- Clock and Milliseconds of Ada.Real_Time
abbrev pub predefined_form : Place → SubprogramView → Parts ActualTree → Result FormTree Fault
predefined_form place s actuals =
    if bytes_eq s.symbol.name (codes "clock") then Ok ClockForm
    else if bytes_eq s.symbol.name (codes "milliseconds") then span_unless actuals.fault place actuals.items
    else Err (nothing_fits place)

abbrev pub function_form : Option Symbol → Place → SubprogramView → Parts ActualTree → CallKind → Result FormTree Fault
function_form own place s actuals calls.Predefined = predefined_form place s actuals
function_form own place s actuals (calls.Subprogram depth) = map_ok CallForm (call_made own place s actuals)
function_form own place s actuals calls.Protected = map_ok CallForm (call_made own place s actuals)
function_form own place s actuals calls.Entry = map_ok CallForm (call_made own place s actuals)
function_form own place s actuals (calls.Operator of_type) = Err (nothing_fits place)

abbrev pub call_node_of : Symbol → Option Symbol → Place → SubprogramView → Parts ActualTree → Subtype → ReadingTree
call_node_of root own place s actuals of =
    node root place s.types of.base (range_in s.types of) (Open actuals.failure) (function_form own place s actuals s.call)

-- a call of a function; what has no result is no value
abbrev pub call_node : Symbol → Option Symbol → Place → SubprogramView → Parts ActualTree → ReadingTree
call_node root own place s actuals = option_map_or (call_node_of root own place s actuals) s.profile.result (misfit place)

-- ---- actual parameters

abbrev pub in_actual : Option Bounds → TypedTree → ActualTree
in_actual range value = InActual (Checked value range)

-- a variable of a formal of this mode, whose address is kept in a word that is numbered later
abbrev pub variable_of : Mode → Option Bounds → Labels → FormTree → Result ActualTree Fault
variable_of mode range labels form =
    option_map_or (λ (name : NameTree). Ok (VariableActual name labels.words mode range labels.bounds 0)) (form_name form) (Err (nothing_fits labels.place))

abbrev pub variable_actual : Mode → Option Bounds → TypedTree → Result ActualTree Fault
variable_actual mode range (Labelled labels form) = variable_of mode range labels form

abbrev pub unless_variable : Bool → Place → Option Fault
unless_variable true place = None
unless_variable false place = Some (no_variable place)

-- an actual parameter that begins there, for a formal of this mode and range; whether it names a variable
abbrev pub actual_for : Mode → Option Bounds → Place → Bool → Result TypedTree Fault → Result ActualTree Fault
actual_for modes.In range place is_variable value = map_ok (in_actual range) value
actual_for modes.InOut range place is_variable value = next (unless (unless_variable is_variable place) value) (variable_actual modes.InOut range)
actual_for modes.Out range place is_variable value = next (unless (unless_variable is_variable place) value) (variable_actual modes.Out range)

abbrev pub with_actual : Parts ActualTree → Mode → Option Bounds → Place → Bool → ReadingTree → Parts ActualTree
with_actual actuals mode range place is_variable value = with_part actuals (failure_in value.known) (actual_for mode range place is_variable value.tree)
