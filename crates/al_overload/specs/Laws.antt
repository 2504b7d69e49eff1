-- Laws of heads, in words of their own.
use Rattle.std.specs.Prelude.{◌≡◌, Bool, true, false, List, [], ◌∷◌, map, Option, None}
use Rattle.std.specs.List.{list_any}
use Rattle.al_base.specs.declared.place.Place.{Place}
use Rattle.al_overload.specs.Labelling.{Tree, Node, Trees, MoreTrees, labellings, suits}
use Rattle.al_overload.specs.declared.term.Candidate.{Candidate}
use Rattle.al_overload.specs.declared.types.Given.{Given}
use Rattle.al_overload.specs.declared.types.Given.TheVariants as g
use Rattle.al_overload.specs.declared.types.Expected.{Expected}
use Rattle.al_overload.specs.Terms.{TermTree, TermTree as t, TermsTree, TermsTree as terms}
use Rattle.al_view_typed.specs.declared.label.BinaryOperator.{BinaryOperator}
use Rattle.al_view_typed.specs.declared.label.UnaryOperator.{UnaryOperator}
use Rattle.al_view.specs.declared.view.ViewKind.{ViewKind}
use Rattle.al_overload.specs.HeadsHeads.{applied, head_of}
use Rattle.al_overload.specs.Universal.{is_universal}
use Rattle.al_overload.specs.declared.everywhere.Predefined.{Predefined}
use Rattle.al_overload.specs.declared.part.Nominal.{Nominal}

-- what the candidates of a head give
abbrev pub given_at : Tree → List Given
given_at (Node cs operands) = map (λ (c : Candidate). c.given) cs

-- an operator of numbers alone means the same whatever is visible under its sign
abbrev pub NumbersNeedNoOperator : Type 0
NumbersNeedNoOperator =
    (p : Predefined) (allowed : Option Nominal) (operator : BinaryOperator) (visible others : List ViewKind) (left right : TermTree)
    → is_universal (t.InfixTerm operator visible left right) ≡ true
    → head_of p allowed (t.InfixTerm operator visible left right) ≡ head_of p allowed (t.InfixTerm operator others left right)

abbrev pub NumbersNeedNoSign : Type 0
NumbersNeedNoSign =
    (p : Predefined) (allowed : Option Nominal) (place : Place) (operator : UnaryOperator) (visible others : List ViewKind) (operand : TermTree)
    → is_universal (t.PrefixedTerm place operator visible operand) ≡ true
    → head_of p allowed (t.PrefixedTerm place operator visible operand) ≡ head_of p allowed (t.PrefixedTerm place operator others operand)

-- an expression of numbers alone may be a value of any integer type, and nothing else
abbrev pub NumbersAreUniversal : Type 0
NumbersAreUniversal =
    (p : Predefined) (allowed : Option Nominal) (x : TermTree) → is_universal x ≡ true → given_at (head_of p allowed x) ≡ g.Universal ∷ []

-- an aggregate fits nothing unless one is allowed
abbrev pub AggregatesStandWhereAllowed : Type 0
AggregatesStandWhereAllowed =
    (p : Predefined) (place : Place) (components : TermsTree) (component : TermTree) (expected : Expected)
    → (labellings (head_of p None (t.AggregateTerm place components)) expected ≡ [])
    × (labellings (head_of p None (t.OthersTerm place component)) expected ≡ [])

-- an index of a part of an object takes one value
abbrev pub IndexesTakeOneValue : Type 0
IndexesTakeOneValue =
    (p : Predefined) (whole : Option Nominal) (prefix first second : Tree) (more : Trees) (expected : Expected)
    → labellings (applied p None whole prefix (MoreTrees first (MoreTrees second more))) expected ≡ []

-- what no candidate of the head gives has no interpretation
abbrev pub NothingFromNothing : Type 0
NothingFromNothing =
    (cs : List Candidate) (operands : Trees) (expected : Expected)
    → list_any (λ (c : Candidate). suits c expected) cs ≡ false → labellings (Node cs operands) expected ≡ []
