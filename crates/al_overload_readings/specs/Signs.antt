-- Operators as terms have them, and under which signs they are declared (ARM 4.5).
use Rattle.std.specs.Prelude.{ℕ, List, codes}
use Rattle.al_base.specs.declared.place.Place.{Place}
use Rattle.al_overload_lookup.specs.Places.{prefix_place}
use Rattle.al_tree_syntax.specs.ExpressionTrees.{Prefix, Prefix as prefix, Sign, Sign as sign, Operator, Operator as o, LogicalOperator, LogicalOperator as l, RelationalOperator, RelationalOperator as r, AddingOperator, AddingOperator as a, MultiplyingOperator, MultiplyingOperator as m}
use Rattle.al_overload.specs.Terms.{TermTree, TermTree as terms}
use Rattle.al_view_typed.specs.declared.label.BinaryOperator.{BinaryOperator}
use Rattle.al_view_typed.specs.declared.label.BinaryOperator.TheVariants as binary
use Rattle.al_view_typed.specs.declared.label.ShortCircuit.TheVariants as short
use Rattle.al_view_typed.specs.declared.label.UnaryOperator.{UnaryOperator}
use Rattle.al_view_typed.specs.declared.label.UnaryOperator.TheVariants as unary
use Rattle.al_view.specs.declared.view.ViewKind.{ViewKind}

-- an operator with its sign
abbrev pub Signed : Type 0 → Type 0
Signed A = A × List ℕ

-- an operator before its operand
unfoldable pub unary_of : Prefix → Signed UnaryOperator
unary_of (prefix.Signed (sign.PlusSign p)) = (unary.Plus, codes "+")
unary_of (prefix.Signed (sign.MinusSign p)) = (unary.Minus, codes "-")
unary_of (prefix.Absolute p) = (unary.Abs, codes "abs")
unary_of (prefix.Negation p) = (unary.Not, codes "not")

unfoldable pub prefixed : (List ℕ → List ViewKind) → Prefix → TermTree → TermTree
prefixed visible p operand = terms.PrefixedTerm (prefix_place p) (unary_of p).0 (visible (unary_of p).1) operand

unfoldable pub looked_up : (List ℕ → List ViewKind) → Signed BinaryOperator → TermTree → TermTree → TermTree
looked_up visible s left right = terms.InfixTerm s.0 (visible s.1) left right

-- relations; short-circuit forms are declared nowhere
unfoldable pub joined_logical : (List ℕ → List ViewKind) → LogicalOperator → TermTree → TermTree → TermTree
joined_logical visible l.AndOperator left right = looked_up visible (binary.And, codes "and") left right
joined_logical visible l.OrOperator left right = looked_up visible (binary.Or, codes "or") left right
joined_logical visible l.XorOperator left right = looked_up visible (binary.Xor, codes "xor") left right
joined_logical visible l.AndThenOperator left right = terms.ShortCircuitTerm short.AndThen left right
joined_logical visible l.OrElseOperator left right = terms.ShortCircuitTerm short.OrElse left right

unfoldable pub relational_of : RelationalOperator → Signed BinaryOperator
relational_of r.EqualOperator = (binary.Equal, codes "=")
relational_of r.NotEqualOperator = (binary.NotEqual, codes "/=")
relational_of r.LessOperator = (binary.Less, codes "<")
relational_of r.LessOrEqualOperator = (binary.LessOrEqual, codes "<=")
relational_of r.GreaterOperator = (binary.Greater, codes ">")
relational_of r.GreaterOrEqualOperator = (binary.GreaterOrEqual, codes ">=")

-- `&` is declared nowhere
unfoldable pub joined_adding : (List ℕ → List ViewKind) → AddingOperator → TermTree → TermTree → TermTree
joined_adding visible (a.PlusOperator p) left right = looked_up visible (binary.Plus, codes "+") left right
joined_adding visible (a.MinusOperator p) left right = looked_up visible (binary.Minus, codes "-") left right
joined_adding visible a.ConcatenationOperator left right = terms.ConcatenationTerm left right

unfoldable pub multiplying_of : MultiplyingOperator → Signed BinaryOperator
multiplying_of m.TimesOperator = (binary.Times, codes "*")
multiplying_of m.DivideOperator = (binary.Divide, codes "/")
multiplying_of m.ModOperator = (binary.Mod, codes "mod")
multiplying_of m.RemOperator = (binary.Rem, codes "rem")

-- an operator between its operands
unfoldable pub joined : (List ℕ → List ViewKind) → Operator → TermTree → TermTree → TermTree
joined visible (o.Logical x) left right = joined_logical visible x left right
joined visible (o.Relational x) left right = looked_up visible (relational_of x) left right
joined visible (o.Adding x) left right = joined_adding visible x left right
joined visible (o.Multiplying x) left right = looked_up visible (multiplying_of x) left right
joined visible o.Power left right = looked_up visible (binary.Power, codes "**") left right
