-- The type that an expression has by itself: none if it is of numbers alone, an aggregate or text.
use Rattle.std.specs.Prelude.{ℕ, Bool, ◌&&◌, List, Option, Some, None, option_map, unwrap_or, if◌then◌else◌}
use Rattle.std.specs.Option.{option_and_then, option_or}
use Rattle.al_overload.specs.Labelling.{Label}
use Rattle.al_overload.specs.Terms.{TermTree, TermTree as t}
use Rattle.al_view_typed.specs.declared.label.Conversion.{Conversion}
use Rattle.al_view_typed.specs.declared.label.Conversion.TheVariants as conversions
use Rattle.al_view.specs.Symbols.{same_symbol}
use Rattle.al_view.specs.declared.symbol.Symbol.{Symbol}
use Rattle.al_view.specs.declared.types.Subtype.{Subtype}
use Rattle.al_view.specs.declared.types.TypeView.{TypeView}
use Rattle.al_view.specs.declared.view.SubprogramView.{SubprogramView}
use Rattle.al_view.specs.declared.view.SubtypeView.{SubtypeView}
use Rattle.al_view.specs.declared.view.ViewKind.{ViewKind}
use Rattle.al_view.specs.declared.view.ViewKind.TheVariants as views
use Rattle.al_overload.specs.Parts.{declared_under, part_of}
use Rattle.al_overload.specs.Universal.{computes_one, computes_two, is_universal}
use Rattle.al_overload.specs.declared.everywhere.Predefined.{Predefined}
use Rattle.al_overload.specs.declared.part.Nominal.{Nominal}
use Rattle.al_overload.specs.Labels.{is_root_in, number_in, operand_label}
use Rattle.al_overload_nodes.specs.Operators.{picked_subprogram, root_result}
use Rattle.al_overload.specs.Picks.{pick}

-- a type, and the types among which it is; none if it is one that every unit has
pub record DeterminedType : Type 0 where
  pub of : Symbol
  pub types : Option (List TypeView)

abbrev pub determined : Option (List TypeView) → Symbol → DeterminedType
determined types of = record { of = of; types = types }

abbrev pub among : List TypeView → Symbol → DeterminedType
among types of = determined (Some types) of

abbrev pub everywhere : Symbol → DeterminedType
everywhere of = determined None of

abbrev pub result_of : SubprogramView → Option DeterminedType
result_of s = option_map (λ (r : Subtype). among s.types r.base) s.profile.result

abbrev pub type_of_view : ViewKind × ℕ → Option DeterminedType
type_of_view (views.OfObject o, n) = Some (among o.types o.subtype.base)
type_of_view (views.OfLiteral l, n) = Some (among l.types l.base)
type_of_view (views.OfSubprogram s, n) = result_of s
type_of_view (views.OfNumber value, n) = None
type_of_view (views.OfComponent, n) = None
type_of_view (views.OfType of, n) = None
type_of_view (views.OfSubtype s, n) = None
type_of_view (views.OfTask of, n) = None
type_of_view (views.OfProtected p, n) = None
type_of_view (views.OfPackage symbol, n) = None

abbrev pub type_picked : Label → List ViewKind → Option DeterminedType
type_picked label visible = option_and_then type_of_view (pick (number_in label) visible)

-- the type of an object or of a part of one
abbrev pub part_type : Option Nominal → Option DeterminedType
part_type part = option_map (λ (n : Nominal). among n.types n.subtype.base) part

abbrev pub mark_told : SubtypeView → DeterminedType
mark_told mark = among mark.types mark.subtype.base

abbrev pub attribute_type : Conversion → SubtypeView → Option DeterminedType
attribute_type conversions.Pos mark = None
attribute_type conversions.Val mark = Some (mark_told mark)
attribute_type conversions.Succ mark = Some (mark_told mark)
attribute_type conversions.Pred mark = Some (mark_told mark)
attribute_type conversions.ToType mark = Some (mark_told mark)
attribute_type conversions.Qualification mark = Some (mark_told mark)
attribute_type conversions.Milliseconds mark = Some (mark_told mark)

-- of an operator, if the root type's gives this
abbrev pub operator_type : Symbol → List ViewKind → Bool → Label → Option DeterminedType
operator_type root_result visible of_numbers label =
    if of_numbers then None
    else if is_root_in label then Some (everywhere root_result)
    else option_and_then result_of (picked_subprogram visible label)

abbrev pub type_told : Predefined → TermTree → Label → Option DeterminedType
type_told p (t.NumberTerm place value) label = None
type_told p (t.TextTerm place bytes) label = None
type_told p (t.NamedTerm place visible) label = type_picked label visible
type_told p (t.SelectedTerm prefix name) label = part_type (part_of (t.SelectedTerm prefix name))
type_told p (t.AppliedTerm prefix arguments) label =
    option_or (part_type (part_of (t.AppliedTerm prefix arguments))) (option_and_then (type_picked label) (declared_under prefix))
type_told p (t.BoundTerm place mark is_last) label = Some (mark_told mark)
type_told p (t.LengthTerm place bounds) label = None
type_told p (t.ConversionTerm place mark operand) label = Some (mark_told mark)
type_told p (t.QualifiedTerm place mark operand) label = Some (mark_told mark)
type_told p (t.AttributeTerm place conversion mark argument) label = attribute_type conversion mark
type_told p (t.ImageTerm place mark argument) label = None
type_told p (t.PrefixedTerm place operator visible operand) label = operator_type p.root visible (computes_one operator && is_universal operand) label
type_told p (t.InfixTerm operator visible left right) label =
    operator_type (root_result p operator) visible (computes_two operator && (is_universal left && is_universal right)) label
type_told p (t.ConcatenationTerm left right) label = None
type_told p (t.ShortCircuitTerm form left right) label = Some (everywhere p.types.boolean.symbol)
type_told p (t.MemberTerm value is_negated mark) label = Some (everywhere p.types.boolean.symbol)
type_told p (t.RangeMemberTerm value is_negated low high) label = Some (everywhere p.types.boolean.symbol)
type_told p (t.GroupTerm place inner) label = type_told p inner label
type_told p (t.AggregateTerm place components) label = None
type_told p (t.OthersTerm place component) label = None
type_told p (t.NothingTerm place) label = None

-- the type that an operand has by itself
abbrev pub operand_type : Predefined → TermTree → Option Label → Option DeterminedType
operand_type p operand label = option_and_then (type_told p operand) label

-- the types among which it is; those that are known there, if every unit has it
abbrev pub types_in : List TypeView → DeterminedType → List TypeView
types_in known t = unwrap_or t.types known

-- the type of the operands of a membership test: that of the first of them that has one by itself; Integer if all are of numbers alone
abbrev pub test_type : Predefined → TermTree → TermTree → TermTree → Label → DeterminedType
test_type p value low high label =
    unwrap_or (option_or (operand_type p value (operand_label 0 label))
    (option_or (operand_type p low (operand_label 1 label)) (operand_type p high (operand_label 2 label)))) (everywhere p.types.integer.symbol)

-- the type of a pair of bounds, which have this type if both are of numbers alone
abbrev pub pair_type : Predefined → DeterminedType → TermTree → TermTree → Label → DeterminedType
pair_type p otherwise low high label =
    unwrap_or (option_or (operand_type p low (operand_label 0 label)) (operand_type p high (operand_label 1 label))) otherwise

-- a range of the root type is of Integer (ARM 3.6(18))
abbrev pub range_type : Predefined → DeterminedType → DeterminedType
range_type p t = if same_symbol t.of p.root then everywhere p.types.integer.symbol else t
