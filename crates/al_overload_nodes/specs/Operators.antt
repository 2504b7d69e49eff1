-- Operators with the types of their operands and results.
use Rattle.std.specs.Prelude.{ℕ, Bool, true, false, List, [], ◌∷◌, Option, Some, None, if◌then◌else◌}
use Rattle.std.specs.Option.{option_and_then}
use Rattle.al_base.specs.declared.place.Place.{Place}
use Rattle.al_overload.specs.Labelling.{Label}
use Rattle.al_base_fault.specs.Judging.{both, map_ok}
use Rattle.al_static.specs.Combining.{binary, short_circuit, unary}
use Rattle.al_view_typed.specs.ExpressionTrees.{TypedTree, FormTree}
use Rattle.al_view_typed.specs.ExpressionTrees.FormTree.{UnaryForm, BinaryForm, ShortCircuitForm}
use Rattle.al_view_typed.specs.declared.label.BinaryOperator.{BinaryOperator}
use Rattle.al_view_typed.specs.declared.label.BinaryOperator.TheVariants as b
use Rattle.al_view_typed.specs.declared.label.ShortCircuit.{ShortCircuit}
use Rattle.al_view_typed.specs.declared.label.UnaryOperator.{UnaryOperator}
use Rattle.al_view.specs.declared.symbol.Symbol.{Symbol}
use Rattle.al_view.specs.declared.types.Subtype.{Subtype}
use Rattle.al_view.specs.declared.types.TypeView.{TypeView}
use Rattle.al_view.specs.declared.view.Parameter.{Parameter}
use Rattle.al_view.specs.declared.view.SubprogramView.{SubprogramView}
use Rattle.al_view.specs.declared.view.ViewKind.{ViewKind}
use Rattle.al_view.specs.declared.view.ViewKind.TheVariants as views
use Rattle.al_overload.specs.declared.everywhere.Predefined.{Predefined}
use Rattle.al_overload.specs.Labels.{is_root_in, number_in}
use Rattle.al_overload_nodes.specs.Nodes.{ReadingTree, node}
use Rattle.al_overload.specs.Picks.{pick}
use Rattle.al_overload.specs.PickedTypes.{is_scalar_type}

-- The types of an operator's operands and of its result, among these types. Of one operand both are that one's.
pub record Signature : Type 0 where
  pub left : Symbol
  pub right : Symbol
  pub result_type : Symbol
  pub types : List TypeView

abbrev pub signature : Symbol → Symbol → Symbol → List TypeView → Signature
signature left right result_type types = record { left = left; right = right; result_type = result_type; types = types }

-- whether an operator compares
abbrev pub is_relation : BinaryOperator → Bool
is_relation b.Equal = true
is_relation b.NotEqual = true
is_relation b.Less = true
is_relation b.LessOrEqual = true
is_relation b.Greater = true
is_relation b.GreaterOrEqual = true
is_relation b.And = false
is_relation b.Or = false
is_relation b.Xor = false
is_relation b.Plus = false
is_relation b.Minus = false
is_relation b.Times = false
is_relation b.Divide = false
is_relation b.Mod = false
is_relation b.Rem = false
is_relation b.Power = false
is_relation b.SameWords = true
is_relation b.OtherWords = true

-- of the root type's operators: an exponent is an Integer
abbrev pub root_right : Predefined → BinaryOperator → Symbol
root_right p b.Power = p.types.integer.symbol
root_right p _ = p.root

abbrev pub root_result : Predefined → BinaryOperator → Symbol
root_result p operator = if is_relation operator then p.types.boolean.symbol else p.root

-- the subprogram whose candidate has the number
abbrev pub subprogram_in : ViewKind × ℕ → Option SubprogramView
subprogram_in (views.OfSubprogram s, n) = Some s
subprogram_in (views.OfObject o, n) = None
subprogram_in (views.OfNumber value, n) = None
subprogram_in (views.OfLiteral l, n) = None
subprogram_in (views.OfComponent, n) = None
subprogram_in (views.OfType of, n) = None
subprogram_in (views.OfSubtype s, n) = None
subprogram_in (views.OfTask of, n) = None
subprogram_in (views.OfProtected p, n) = None
subprogram_in (views.OfPackage symbol, n) = None

abbrev pub picked_subprogram : List ViewKind → Label → Option SubprogramView
picked_subprogram visible label = option_and_then subprogram_in (pick (number_in label) visible)

abbrev pub profile_of_one : List TypeView → List Parameter → Option Subtype → Option Signature
profile_of_one types (x ∷ []) (Some r) = Some (signature x.subtype.base x.subtype.base r.base types)
profile_of_one types _ _ = None

abbrev pub profile_of_two : List TypeView → List Parameter → Option Subtype → Option Signature
profile_of_two types (x ∷ (y ∷ [])) (Some r) = Some (signature x.subtype.base y.subtype.base r.base types)
profile_of_two types _ _ = None

abbrev pub unary_profile : SubprogramView → Option Signature
unary_profile s = profile_of_one s.types s.profile.parameters s.profile.result

abbrev pub binary_profile : SubprogramView → Option Signature
binary_profile s = profile_of_two s.types s.profile.parameters s.profile.result

-- An operator of numbers alone has the type that is wanted of it; else it is one of the root type, or one that is visible.
abbrev pub unary_signature : Predefined → List ViewKind → Bool → Label → List TypeView → Symbol → Option Signature
unary_signature p visible of_numbers label types at =
    if of_numbers then Some (signature at at at types)
    else if is_root_in label then Some (signature p.root p.root p.root types)
    else option_and_then unary_profile (picked_subprogram visible label)

abbrev pub binary_signature : Predefined → BinaryOperator → List ViewKind → Bool → Label → List TypeView → Symbol → Option Signature
binary_signature p operator visible of_numbers label types at =
    if of_numbers then Some (signature at at at types)
    else if is_root_in label then Some (signature p.root (root_right p operator) (root_result p operator) types)
    else option_and_then binary_profile (picked_subprogram visible label)

-- equality of what isn't seen to be scalar compares all words
abbrev pub by_words : BinaryOperator → BinaryOperator
by_words b.Equal = b.SameWords
by_words b.NotEqual = b.OtherWords
by_words operator = operator

abbrev pub operator_on : Bool → BinaryOperator → BinaryOperator
operator_on is_scalar operator = if is_scalar then operator else by_words operator

abbrev pub unary_node : Symbol → Place → UnaryOperator → Signature → ReadingTree → ReadingTree
unary_node root place operator s operand =
    node root place s.types s.result_type None (unary place operator operand.known) (map_ok (UnaryForm operator) operand.tree)

abbrev pub binary_form : BinaryOperator → TypedTree × TypedTree → FormTree
binary_form operator operands = BinaryForm operator operands.0 operands.1

abbrev pub binary_node_of : Symbol → Place → BinaryOperator → Signature → ReadingTree → ReadingTree → ReadingTree
binary_node_of root place operator s left right =
    node root place s.types s.result_type None (binary place operator left.known right.known) (map_ok (binary_form operator) (both left.tree right.tree))

abbrev pub binary_node : Symbol → Place → BinaryOperator → Signature → ReadingTree → ReadingTree → ReadingTree
binary_node root place operator s left right = binary_node_of root place (operator_on (is_scalar_type s.types s.left) operator) s left right

abbrev pub short_circuit_form : ShortCircuit → TypedTree × TypedTree → FormTree
short_circuit_form form operands = ShortCircuitForm form operands.0 operands.1

abbrev pub short_circuit_node : Symbol → Place → List TypeView → Symbol → ShortCircuit → ReadingTree → ReadingTree → ReadingTree
short_circuit_node root place types boolean form left right =
    node root place types boolean None (short_circuit place form left.known right.known) (map_ok (short_circuit_form form) (both left.tree right.tree))
