-- Laws of heads.
use Rattle.std.proofs.Common.{◌≡◌, ℕ, suc, Bool, true, false, ◌&&◌, ◌||◌, List, [], ◌∷◌, ◌++◌, map, Option, Some, None, if◌then◌else◌, refl, sym, ap, ◌∙◌}
use Rattle.std.specs.List.{flat_map, list_any}
use Rattle.std.specs.Option.{option_and_then}
use Rattle.al_base.specs.declared.place.Place.{Place}
use Rattle.al_overload.specs.Labelling.{Label, Labels, MoreLabels, Node, NodeAs, NoTree, Tree, Trees, MoreTrees, fillings, labellings, numbered, pairs, suits}
use Rattle.al_overload.specs.declared.term.Candidate.{Candidate}
use Rattle.al_overload.specs.declared.types.Given.{Given}
use Rattle.al_overload.specs.declared.types.Given.TheVariants as g
use Rattle.al_overload.specs.declared.types.Expected.{Expected}
use Rattle.al_overload.specs.declared.types.Expected.TheVariants as w
use Rattle.al_overload.specs.Heads.{all_candidates, operated}
use Rattle.al_view_predefined.specs.Operators.{spelling}
use Rattle.al_overload.specs.Terms.{TermTree, TermTree as t}
use Rattle.al_view_typed.specs.declared.label.BinaryOperator.{BinaryOperator}
use Rattle.al_view_typed.specs.declared.label.Conversion.{Conversion}
use Rattle.al_view_typed.specs.declared.label.Conversion.TheVariants as conversions
use Rattle.al_view_typed.specs.declared.label.UnaryOperator.{UnaryOperator}
use Rattle.al_view.specs.Interfaces.{views_of}
use Rattle.al_view.specs.declared.symbol.Symbol.{Symbol}
use Rattle.al_view.specs.declared.types.TypeDefinition.{TypeDefinition}
use Rattle.al_view.specs.declared.types.TypeDefinition.TheVariants as definitions
use Rattle.al_view.specs.declared.view.SubtypeView.{SubtypeView}
use Rattle.al_view.specs.declared.view.ViewKind.{ViewKind}
use Rattle.al_view.specs.declared.view.ViewKind.TheVariants as views
use Rattle.al_overload.specs.Aggregates.{operation, value_given, value_wanted}
use Rattle.al_overload.specs.HeadsHeads.{applied, attribute, head_of, indexing, indexing_in, infixed, one, possible, prefixed, sole, two}
use Rattle.al_overload.specs.Laws.{AggregatesStandWhereAllowed, IndexesTakeOneValue, NothingFromNothing, NumbersAreUniversal, NumbersNeedNoOperator, NumbersNeedNoSign, given_at}
use Rattle.al_overload.specs.Parts.{definition_of}
use Rattle.al_overload.specs.Signs.{binary_sign, unary_sign}
use Rattle.al_overload.specs.Universal.{computes_one, computes_two, is_number, is_position, is_sole_number, is_universal}
use Rattle.al_overload.specs.declared.everywhere.Predefined.{Predefined}
use Rattle.al_overload.specs.declared.part.Nominal.{Nominal}

-- a choice that is made one way
chosen : {A : Type 0} (b : Bool) (x y z : A) → b ≡ true → (if b then x else y) ≡ (if b then x else z)
chosen true x y z e = refl
chosen false x y z e = absurd cc

pub numbers_need_no_operator : NumbersNeedNoOperator
numbers_need_no_operator p allowed operator visible others left right e =
    chosen (computes_two operator && (is_universal left && is_universal right))
    (sole (operation (w.AnyInteger ∷ w.AnyInteger ∷ []) g.Universal) (two (head_of p None left) (head_of p None right)))
    (operated p.root visible (views_of p.operators (spelling (binary_sign operator))) (two (head_of p None left) (head_of p None right)))
    (operated p.root others (views_of p.operators (spelling (binary_sign operator))) (two (head_of p None left) (head_of p None right)))
    e

pub numbers_need_no_sign : NumbersNeedNoSign
numbers_need_no_sign p allowed place operator visible others operand e =
    chosen (computes_one operator && is_universal operand)
    (sole (operation (w.AnyInteger ∷ []) g.Universal) (one (head_of p None operand)))
    (operated p.root visible (views_of p.operators (spelling (unary_sign operator))) (one (head_of p None operand)))
    (operated p.root others (views_of p.operators (spelling (unary_sign operator))) (one (head_of p None operand)))
    e

pub aggregates_stand_where_allowed : AggregatesStandWhereAllowed
aggregates_stand_where_allowed p place components component expected = (refl, refl)

-- what is under candidates, from one number on
abbrev under_all : ℕ → List Candidate → Trees → Expected → List Label
under_all n cs operands expected = flat_map (λ (d : ℕ × Candidate). if suits d.1 expected then map (NodeAs d.0 d.1.is_root) (fillings operands d.1.operands) else []) (numbered n cs)

none_left : (n : ℕ) (c : Candidate) (cs : List Candidate) (operands : Trees) (expected : Expected) (b : Bool) → suits c expected ≡ b
    → (b || list_any (λ (d : Candidate). suits d expected) cs) ≡ false
    → (list_any (λ (d : Candidate). suits d expected) cs ≡ false → under_all (suc n) cs operands expected ≡ [])
    → under_all n (c ∷ cs) operands expected ≡ []
none_left n c cs operands expected true is e rest = absurd cc
none_left n c cs operands expected false is e rest = rw is (rest e)

none_given : (n : ℕ) (cs : List Candidate) (operands : Trees) (expected : Expected) → list_any (λ (c : Candidate). suits c expected) cs ≡ false → under_all n cs operands expected ≡ []
none_given n [] operands expected e = refl
none_given n (c ∷ cs) operands expected e = none_left n c cs operands expected (suits c expected) refl e (λ k. none_given (suc n) cs operands expected k)

pub nothing_from_nothing : NothingFromNothing
nothing_from_nothing cs operands expected e = none_given 0 cs operands expected e

-- pairs with nothing
no_pairs : (xs : List Label) → pairs xs [] ≡ []
no_pairs [] = refl
no_pairs (x ∷ xs) = no_pairs xs

no_pairs_below : (xs ys : List Label) → pairs xs (pairs ys []) ≡ []
no_pairs_below xs ys = ap (λ (l : List Labels). pairs xs l) (no_pairs ys) ∙ no_pairs xs

not_filled : (b : Bool) (f : Labels → Label) (l : List Labels) → l ≡ [] → ((if b then map f l else []) ++ []) ≡ []
not_filled true f l e = ap (λ (m : List Labels). map f m ++ []) e
not_filled false f l e = refl

-- an index by its array's definition
not_indexed : (of : Nominal) (d : Option TypeDefinition) (prefix first second : Tree) (more : Trees) (expected : Expected)
    → labellings (possible (option_and_then (indexing_in of) d) (MoreTrees prefix (MoreTrees first (MoreTrees second more)))) expected ≡ []
not_indexed of None prefix first second more expected = refl
not_indexed of (Some (definitions.Array index component)) prefix first second more expected =
    not_filled (suits (operation (value_wanted of.types of.subtype ∷ value_wanted of.types index ∷ []) (value_given of.types component)) expected) (NodeAs 0 false)
    (pairs (labellings prefix (value_wanted of.types of.subtype)) (pairs (labellings first (value_wanted of.types index)) []))
    (no_pairs_below (labellings prefix (value_wanted of.types of.subtype)) (labellings first (value_wanted of.types index)))
not_indexed of (Some (definitions.Record components)) prefix first second more expected = refl
not_indexed of (Some (definitions.Integer bounds)) prefix first second more expected = refl
not_indexed of (Some (definitions.Enumeration literals)) prefix first second more expected = refl
not_indexed of (Some definitions.Time) prefix first second more expected = refl
not_indexed of (Some definitions.Private) prefix first second more expected = refl

pub indexes_take_one_value : IndexesTakeOneValue
indexes_take_one_value p None prefix first second more expected = refl
indexes_take_one_value p (Some of) prefix first second more expected = not_indexed of (definition_of of.types of.subtype) prefix first second more expected

-- ---- numbers

view_given : (root : Symbol) (v : ViewKind) → is_number v ≡ true → given_at (all_candidates root (v ∷ []) NoTree) ≡ g.Universal ∷ []
view_given root (views.OfNumber value) e = refl
view_given root _ e = absurd cc

name_given : (root : Symbol) (visible : List ViewKind) → is_sole_number visible ≡ true → given_at (all_candidates root visible NoTree) ≡ g.Universal ∷ []
name_given root [] e = absurd cc
name_given root (v ∷ []) e = view_given root v e
name_given root (v ∷ (x ∷ vs)) e = absurd cc

position_given : (conversion : Conversion) (mark : SubtypeView) (operands : Trees) → is_position conversion ≡ true → given_at (possible (attribute conversion mark) operands) ≡ g.Universal ∷ []
position_given conversions.Pos mark operands e = refl
position_given _ mark operands e = absurd cc

operator_given : (b : Bool) (c : Candidate) (operands : Trees) (head : Tree) → b ≡ true → given_at (if b then sole c operands else head) ≡ c.given ∷ []
operator_given true c operands head e = refl
operator_given false c operands head e = absurd cc

pub numbers_are_universal : NumbersAreUniversal
numbers_are_universal p allowed (t.NumberTerm place value) e = refl
numbers_are_universal p allowed (t.NamedTerm place visible) e = name_given p.root visible e
numbers_are_universal p allowed (t.LengthTerm place bounds) e = refl
numbers_are_universal p allowed (t.AttributeTerm place conversion mark argument) e = position_given conversion mark (one (head_of p None argument)) e
numbers_are_universal p allowed (t.PrefixedTerm place operator visible operand) e =
    operator_given (computes_one operator && is_universal operand) (operation (w.AnyInteger ∷ []) g.Universal) (one (head_of p None operand))
    (operated p.root visible (views_of p.operators (spelling (unary_sign operator))) (one (head_of p None operand))) e
numbers_are_universal p allowed (t.InfixTerm operator visible left right) e =
    operator_given (computes_two operator && (is_universal left && is_universal right)) (operation (w.AnyInteger ∷ w.AnyInteger ∷ []) g.Universal)
    (two (head_of p None left) (head_of p None right))
    (operated p.root visible (views_of p.operators (spelling (binary_sign operator))) (two (head_of p None left) (head_of p None right))) e
numbers_are_universal p allowed (t.GroupTerm place inner) e = numbers_are_universal p allowed inner e
numbers_are_universal p allowed _ e = absurd cc
