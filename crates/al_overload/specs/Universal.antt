-- Expressions of numbers alone (ARM 3.4.1(7), 4.5.3 to 4.5.6, 8.6(29)).
use Rattle.std.specs.Prelude.{Bool, true, false, ◌&&◌, List, [], ◌∷◌}
use Rattle.al_overload.specs.Terms.{TermTree, TermTree as t}
use Rattle.al_view_typed.specs.declared.label.BinaryOperator.{BinaryOperator}
use Rattle.al_view_typed.specs.declared.label.BinaryOperator.TheVariants as binary
use Rattle.al_view_typed.specs.declared.label.Conversion.{Conversion}
use Rattle.al_view_typed.specs.declared.label.Conversion.TheVariants as conversions
use Rattle.al_view_typed.specs.declared.label.UnaryOperator.{UnaryOperator}
use Rattle.al_view_typed.specs.declared.label.UnaryOperator.TheVariants as unary
use Rattle.al_view.specs.declared.view.ViewKind.{ViewKind}
use Rattle.al_view.specs.declared.view.ViewKind.TheVariants as views

-- an operator before a number that gives a number
abbrev pub computes_one : UnaryOperator → Bool
computes_one unary.Plus = true
computes_one unary.Minus = true
computes_one unary.Abs = true
computes_one unary.Not = false

-- an operator between two numbers that gives a number
abbrev pub computes_two : BinaryOperator → Bool
computes_two binary.Plus = true
computes_two binary.Minus = true
computes_two binary.Times = true
computes_two binary.Divide = true
computes_two binary.Mod = true
computes_two binary.Rem = true
computes_two binary.Power = true
computes_two _ = false

abbrev pub is_number : ViewKind → Bool
is_number (views.OfNumber value) = true
is_number _ = false

-- a named number, which is all that is visible: it isn't overloadable
abbrev pub is_sole_number : List ViewKind → Bool
is_sole_number (v ∷ []) = is_number v
is_sole_number _ = false

abbrev pub is_position : Conversion → Bool
is_position conversions.Pos = true
is_position _ = false

-- A number, a named number, `S'Pos (X)`, `A'Length`, and what operators of integer types and parentheses make of these alone.
abbrev pub is_universal : TermTree → Bool
is_universal (t.NumberTerm place value) = true
is_universal (t.NamedTerm place visible) = is_sole_number visible
is_universal (t.LengthTerm place bounds) = true
is_universal (t.AttributeTerm place conversion subtype argument) = is_position conversion
is_universal (t.PrefixedTerm place operator visible operand) = computes_one operator && is_universal operand
is_universal (t.InfixTerm operator visible left right) = computes_two operator && (is_universal left && is_universal right)
is_universal (t.GroupTerm place inner) = is_universal inner
is_universal _ = false
