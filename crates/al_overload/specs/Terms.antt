-- An expression whose names have been looked up (ARM 4.1 to 4.7): with each name is all that is visible under it. No name is left in it
-- that would have to be looked for: what follows asks nothing.
use Rattle.std.specs.Prelude.{ℕ, Bool, List}
use Rattle.al_base.specs.declared.place.Place.{Place}
use Rattle.al_view_typed.specs.declared.label.BinaryOperator.{BinaryOperator}
use Rattle.al_view_typed.specs.declared.label.Conversion.{Conversion}
use Rattle.al_view_typed.specs.declared.label.ShortCircuit.{ShortCircuit}
use Rattle.al_view_typed.specs.declared.label.UnaryOperator.{UnaryOperator}
use Rattle.al_view.specs.declared.types.Bounds.{Bounds}
use Rattle.al_view.specs.declared.types.StaticValue.{StaticValue}
use Rattle.al_view.specs.declared.view.SubtypeView.{SubtypeView}
use Rattle.al_view.specs.declared.view.ViewKind.{ViewKind}

mutual
  pub data TermTree : Type 0 where
    -- a numeric literal with its value
    NumberTerm : Place → StaticValue → TermTree
    -- a string literal: its bytes
    TextTerm : Place → List ℕ → TermTree
    -- a name (an identifier, an expanded name, an operation of a protected object): all declarations that are visible under it, one at least, each of which may be a value or a call
    NamedTerm : Place → List ViewKind → TermTree
    -- a component of that name (in lower case) of what comes before the dot, which is no package and no construct round the place
    SelectedTerm : TermTree → List ℕ → TermTree
    -- after a name: indexes of an array, or arguments of a call
    AppliedTerm : TermTree → TermsTree → TermTree
    -- S'First (false) or S'Last (true); of an array the subtype is its index subtype
    BoundTerm : Place → SubtypeView → Bool → TermTree
    -- A'Length, by the bounds of the array's index
    LengthTerm : Place → Bounds → TermTree
    -- a type conversion (ARM 4.6). Its operand is a complete context of its own, which begins at the operand's first token.
    ConversionTerm : Place → SubtypeView → TermTree → TermTree
    -- a qualified expression (ARM 4.7). Its operand is a GroupTerm, AggregateTerm or OthersTerm: a context of its own, which begins at its parenthesis.
    QualifiedTerm : Place → SubtypeView → TermTree → TermTree
    -- S'Pos (X), S'Val (X), S'Succ (X), S'Pred (X): the argument belongs to the context round it
    AttributeTerm : Place → Conversion → SubtypeView → TermTree → TermTree
    -- S'Image (X): the argument is a context of its own
    ImageTerm : Place → SubtypeView → TermTree → TermTree
    -- an operator before its operand, with what is visible under its sign
    PrefixedTerm : Place → UnaryOperator → List ViewKind → TermTree → TermTree
    -- an operator between its operands, with what is visible under its sign (never SameWords, OtherWords: the labels have these)
    InfixTerm : BinaryOperator → List ViewKind → TermTree → TermTree → TermTree
    -- `&` of what Put writes
    ConcatenationTerm : TermTree → TermTree → TermTree
    ShortCircuitTerm : ShortCircuit → TermTree → TermTree → TermTree
    -- X [not] in S: whether it has a `not`; of a Range attribute the subtype is the array's index subtype
    MemberTerm : TermTree → Bool → SubtypeView → TermTree
    -- X [not] in L .. H
    RangeMemberTerm : TermTree → Bool → TermTree → TermTree → TermTree
    -- in parentheses, with the place of the left one
    GroupTerm : Place → TermTree → TermTree
    -- a positional aggregate of two values or more, with the place of its parenthesis
    AggregateTerm : Place → TermsTree → TermTree
    -- (others => X)
    OthersTerm : Place → TermTree → TermTree
    -- what fits nothing: an attribute that there isn't, Range as a value, a conversion of several values
    NothingTerm : Place → TermTree

  pub data TermsTree : Type 0 where
    NoTerm : TermsTree
    MoreTerms : TermTree → TermsTree → TermsTree
