-- What each name, call, operator, literal and other construct of an expression may mean at its place (ARM 8.6): its term as a tree
-- whose heads have their candidates.
use Rattle.std.specs.Prelude.{ℕ, Bool, ◌&&◌, List, [], ◌∷◌, Option, Some, None, option_map, if◌then◌else◌}
use Rattle.std.specs.Option.{option_and_then}
use Rattle.al_overload.specs.Fitting.{is_discrete}
use Rattle.al_overload.specs.declared.types.ValueType.{ValueType}
use Rattle.al_overload.specs.Labelling.{Tree, Node, Trees, NoTree, MoreTrees}
use Rattle.al_overload.specs.Ranges.{alike}
use Rattle.al_overload.specs.declared.term.Candidate.{Candidate}
use Rattle.al_overload.specs.declared.types.Given.{Given}
use Rattle.al_overload.specs.declared.types.Given.TheVariants as g
use Rattle.al_overload.specs.declared.types.Expected.{Expected}
use Rattle.al_overload.specs.declared.types.Expected.TheVariants as w
use Rattle.al_overload.specs.Heads.{all_candidates, operated}
use Rattle.al_overload.specs.Types.{value_type}
use Rattle.al_view_predefined.specs.Operators.{spelling}
use Rattle.al_overload.specs.Terms.{TermTree, TermTree as t, TermsTree, TermsTree as terms}
use Rattle.al_view_typed.specs.declared.label.BinaryOperator.{BinaryOperator}
use Rattle.al_view_typed.specs.declared.label.Conversion.{Conversion}
use Rattle.al_view_typed.specs.declared.label.Conversion.TheVariants as conversions
use Rattle.al_view_typed.specs.declared.label.UnaryOperator.{UnaryOperator}
use Rattle.al_view_typed.specs.Listed.{listed}
use Rattle.al_view.specs.Interfaces.{views_of}
use Rattle.al_view.specs.declared.types.TypeDefinition.{TypeDefinition}
use Rattle.al_view.specs.declared.types.TypeDefinition.TheVariants as definitions
use Rattle.al_view.specs.declared.view.SubtypeView.{SubtypeView}
use Rattle.al_view.specs.declared.view.ViewKind.{ViewKind}
use Rattle.al_overload.specs.Aggregates.{how_many, operation, others, positional, value_given, value_wanted}
use Rattle.al_overload.specs.Parts.{component_of, declared_under, definition_of, part_of}
use Rattle.al_overload.specs.Signs.{binary_sign, unary_sign}
use Rattle.al_overload.specs.Universal.{computes_one, computes_two, is_universal}
use Rattle.al_overload.specs.declared.everywhere.Predefined.{Predefined}
use Rattle.al_overload.specs.declared.part.Nominal.{Nominal}

-- what may be one thing alone, and what may be that or nothing
abbrev pub sole : Candidate → Trees → Tree
sole candidate operands = Node (candidate ∷ []) operands

abbrev pub possible : Option Candidate → Trees → Tree
possible (Some candidate) operands = sole candidate operands
possible None operands = Node [] operands

abbrev pub one : Tree → Trees
one a = MoreTrees a NoTree

abbrev pub two : Tree → Tree → Trees
two a b = MoreTrees a (one b)

abbrev pub three : Tree → Tree → Tree → Trees
three a b c = MoreTrees a (two b c)

abbrev pub trees_of : List Tree → Trees
trees_of heads = listed MoreTrees NoTree heads

-- a value of the mark's type
abbrev pub mark_wanted : SubtypeView → Expected
mark_wanted mark = value_wanted mark.types mark.subtype

abbrev pub mark_given : SubtypeView → Given
mark_given mark = value_given mark.types mark.subtype

-- an operator with its operands: if they are numbers alone it needs not be visible; else it is one that is visible, or one
-- of the root type
abbrev pub prefixed : Predefined → UnaryOperator → List ViewKind → Bool → Trees → Tree
prefixed p operator visible of_numbers operands =
    if computes_one operator && of_numbers then sole (operation (w.AnyInteger ∷ []) g.Universal) operands
    else operated p.root visible (views_of p.operators (spelling (unary_sign operator))) operands

abbrev pub infixed : Predefined → BinaryOperator → List ViewKind → Bool → Trees → Tree
infixed p operator visible of_numbers operands =
    if computes_two operator && of_numbers then sole (operation (w.AnyInteger ∷ w.AnyInteger ∷ []) g.Universal) operands
    else operated p.root visible (views_of p.operators (spelling (binary_sign operator))) operands

abbrev pub attribute : Conversion → SubtypeView → Option Candidate
attribute conversions.Pos mark = Some (operation (mark_wanted mark ∷ []) g.Universal)
attribute conversions.Val mark = Some (operation (w.AnyInteger ∷ []) (mark_given mark))
attribute conversions.Succ mark = Some (operation (mark_wanted mark ∷ []) (mark_given mark))
attribute conversions.Pred mark = Some (operation (mark_wanted mark ∷ []) (mark_given mark))
attribute _ mark = None

-- of scalar types alone
abbrev pub membership : Predefined → SubtypeView → Option Candidate
membership p mark =
    if is_discrete (value_type mark.types mark.subtype.base).class then Some (operation (mark_wanted mark ∷ []) (g.Value p.types.boolean)) else None

-- two truth values
abbrev pub short_circuit : Predefined → Candidate
short_circuit p = operation (w.Value p.types.boolean ∷ w.Value p.types.boolean ∷ []) (g.Value p.types.boolean)

abbrev pub concatenation : Candidate
concatenation = operation (w.Text ∷ w.Text ∷ []) g.Text

-- a component of what has this nominal subtype, by its name
abbrev pub selection : List ℕ → Nominal → Option Candidate
selection name whole =
    option_map (λ (part : Nominal). operation (value_wanted whole.types whole.subtype ∷ []) (value_given part.types part.subtype)) (component_of name whole)

-- or by an index
abbrev pub indexing_in : Nominal → TypeDefinition → Option Candidate
indexing_in whole (definitions.Array index component) =
    Some (operation (value_wanted whole.types whole.subtype ∷ value_wanted whole.types index ∷ []) (value_given whole.types component))
indexing_in whole _ = None

abbrev pub indexing : Nominal → Option Candidate
indexing whole = option_and_then (indexing_in whole) (definition_of whole.types whole.subtype)

-- after a name come indexes or arguments; after a part of an object an index, if the part is the first operand
abbrev pub applied : Predefined → Option (List ViewKind) → Option Nominal → Tree → Trees → Tree
applied p (Some visible) whole prefix operands = all_candidates p.root visible operands
applied p None whole prefix operands = possible (option_and_then indexing whole) (MoreTrees prefix operands)

-- `allowed` is the nominal subtype that an aggregate has here, where one is allowed.
abbrev mutual
  pub head_of : Predefined → Option Nominal → TermTree → Tree
  head_of p allowed (t.NumberTerm place value) = sole (operation [] g.Universal) NoTree
  head_of p allowed (t.TextTerm place bytes) = sole (operation [] g.Text) NoTree
  head_of p allowed (t.NamedTerm place visible) = all_candidates p.root visible NoTree
  head_of p allowed (t.SelectedTerm prefix name) = possible (option_and_then (selection name) (part_of prefix)) (one (head_of p None prefix))
  head_of p allowed (t.AppliedTerm prefix arguments) = applied p (declared_under prefix) (part_of prefix) (head_of p None prefix) (heads_of p arguments)
  head_of p allowed (t.BoundTerm place mark is_last) = sole (operation [] (mark_given mark)) NoTree
  head_of p allowed (t.LengthTerm place bounds) = sole (operation [] g.Universal) NoTree
  head_of p allowed (t.ConversionTerm place mark operand) = sole (operation [] (mark_given mark)) NoTree
  head_of p allowed (t.QualifiedTerm place mark operand) = sole (operation [] (mark_given mark)) NoTree
  head_of p allowed (t.AttributeTerm place conversion mark argument) = possible (attribute conversion mark) (one (head_of p None argument))
  head_of p allowed (t.ImageTerm place mark argument) = sole (operation [] g.Text) NoTree
  head_of p allowed (t.PrefixedTerm place operator visible operand) = prefixed p operator visible (is_universal operand) (one (head_of p None operand))
  head_of p allowed (t.InfixTerm operator visible left right) =
      infixed p operator visible (is_universal left && is_universal right) (two (head_of p None left) (head_of p None right))
  head_of p allowed (t.ConcatenationTerm left right) = sole concatenation (two (head_of p None left) (head_of p None right))
  head_of p allowed (t.ShortCircuitTerm form left right) = sole (short_circuit p) (two (head_of p None left) (head_of p None right))
  head_of p allowed (t.MemberTerm value is_negated mark) = possible (membership p mark) (one (head_of p None value))
  head_of p allowed (t.RangeMemberTerm value is_negated low high) =
      alike p.root p.types.integer (Some p.types.boolean) (three (head_of p None value) (head_of p None low) (head_of p None high))
  head_of p allowed (t.GroupTerm place inner) = head_of p allowed inner
  head_of p allowed (t.AggregateTerm place components) = possible (option_and_then (positional (how_many components)) allowed) (heads_of p components)
  head_of p allowed (t.OthersTerm place component) = possible (option_and_then others allowed) (one (head_of p None component))
  head_of p allowed (t.NothingTerm place) = Node [] NoTree

  pub heads_of : Predefined → TermsTree → Trees
  heads_of p terms.NoTerm = NoTree
  heads_of p (terms.MoreTerms x xs) = MoreTrees (head_of p None x) (heads_of p xs)

abbrev pub plain_head : Predefined → TermTree → Tree
plain_head p x = head_of p None x

-- a pair of bounds, which have one type: this one, if both are numbers alone
abbrev pub bounds_head : Predefined → ValueType → TermTree → TermTree → Tree
bounds_head p numbers low high = alike p.root numbers None (two (head_of p None low) (head_of p None high))
