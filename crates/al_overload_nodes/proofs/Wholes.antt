-- Whole terms whose operands are read one after another.
use Rattle.std.proofs.Common.{◌≡◌, Bool, List, map, Result, Ok, Err, IfOk, Option, refl, sym, ap, subst, ◌∙◌, Vec, Box, Global}
use Rattle.al_base.specs.declared.place.Place.{Place}
use Rattle.al_base.specs.declared.refusal.NoMemory.{NoMemory}
use Rattle.al_overload.specs.Labelling.{Label}
use Rattle.al_overload.proofs.TermsMade.{applied_made, range_member_made}
use Rattle.al_overload.specs.Places.{first_place}
use Rattle.al_overload.specs.Terms.{TermTree, TermTree as t, TermsTree}
use Rattle.al_overload.specs.TermViews.{term_model, terms_of}
use Rattle.al_overload.specs.declared.heads_term.Term.{Term}
use Rattle.al_overload.specs.declared.heads_term.Term.TheVariants.{Applied, RangeMember}
use Rattle.al_view.specs.declared.symbol.Symbol.{Symbol}
use Rattle.al_view.specs.declared.types.TypeView.{TypeView}
use Rattle.al_view.specs.declared.view.ObjectView.{ObjectView}
use Rattle.al_overload.specs.Parts.{declared_under, part_of}
use Rattle.al_overload.specs.declared.everywhere.Predefined.{Predefined}
use Rattle.al_overload_nodes.specs.Gathering.{no_parts}
use Rattle.al_overload_nodes.specs.Names.{object_node}
use Rattle.al_overload_nodes.specs.Nodes.{ReadingTree, membership_node}
use Rattle.al_overload_nodes.specs.Views.{reading_model}
use Rattle.al_overload_nodes.specs.declared.node.Reading.{Reading}
use Rattle.al_overload_nodes.specs.Leaves.{Application, application, applied_node, indexed_node}
use Rattle.al_overload_nodes.specs.FromAnswers.{test_type, types_in}
use Rattle.al_overload_nodes.specs.Pairs.{together}
use Rattle.al_overload_nodes.specs.Readings.{actuals_read, applied_read, index_read, operand_read, range_member_read, reading}
use Rattle.al_overload_nodes.proofs.TermKinds.{read_by}

-- two that each need memory, if both were made
pub two_made : {A B : Type 0} (P : A → Type 0) (Q : B → Type 0) (one : Result A NoMemory) (two : Result B NoMemory) (r : Result (A × B) NoMemory) (x : A) (y : B)
    → r ≡ together one two → r ≡ Ok (x, y) → IfOk one P → IfOk two Q → P x × Q y
two_made {A} {B} P Q (Ok u) (Ok v) r x y made is p q = let f : Ok (u, v) ≡ Ok (x, y) = sym made ∙ is in let e : (u, v) ≡ (x, y) = cc in subst (λ (k : A × B). P k.0 × Q k.1) e (p, q)
two_made P Q (Ok u) (Err k) r x y made is p q = absurd (cc)
two_made P Q (Err k) two r x y made is p q = absurd (cc)

known : {B C : Type 0} (r : Result (B × C) NoMemory) → IfOk r (λ (w : B × C). r ≡ Ok (w.0, w.1))
known (Ok (b, c)) = refl
known (Err k) = tt

-- three in the same way
pub three_made : {A B C : Type 0} (P : A → Type 0) (Q : B → Type 0) (R : C → Type 0) (one : Result A NoMemory) (two : Result B NoMemory) (three : Result C NoMemory) (r : Result (B × C) NoMemory) (s : Result (A × (B × C)) NoMemory) (x : A) (y : B) (z : C)
    → r ≡ together two three → s ≡ together one r → s ≡ Ok (x, (y, z)) → IfOk one P → IfOk two Q → IfOk three R → P x × (Q y × R z)
three_made {A} {B} {C} P Q R one two three r s x y z made all is p q h =
    let k = two_made P (λ (w : B × C). r ≡ Ok (w.0, w.1)) one r s x (y, z) all is p (known r) in
    (k.0, two_made Q R two three r y z made k.1 q h)

-- ---- components

abbrev applied_by : Predefined → Option Symbol → Place → TermTree → TermsTree → Label → List TypeView → Symbol → Application → ReadingTree
applied_by p own place n xs label types at a =
    applied_node p.root own place (λ s. actuals_read p own s label 0 no_parts xs) (operand_read p own place 0 n label types at)
    (λ k among of. index_read p own place k label among of xs) a

-- what it is by how it is applied
pub applied_is : (p : Predefined) (own : Option Symbol) (place : Place) (n : TermTree) (xs : TermsTree) (label : Label) (types : List TypeView) (at : Symbol) (a : Application)
    → a ≡ application (declared_under n) (part_of n) label → applied_by p own place n xs label types at a ≡ applied_read p own place n xs label types at
applied_is p own place n xs label types at a found = ap (applied_by p own place n xs label types at) found

-- a whole term that begins there
pub applied_model : (p : Predefined) (own : Option Symbol) (term : Term) (name : Box Term Global) (arguments : Vec Term Global) (n : Term) (xs : List Term) (label : Label) (types : List TypeView) (at : Symbol) (place : Place)
    → term ≡ Applied name arguments → n ≡ name.value → xs ≡ arguments.items → place ≡ first_place (term_model n)
    → applied_read p own place (term_model n) (terms_of (map term_model xs)) label types at ≡ reading p own (term_model term) label types at
applied_model p own term name arguments n xs label types at place is here items begins =
    ap (λ (q : Place). applied_read p own q (term_model n) (terms_of (map term_model xs)) label types at) begins
    ∙ ap (λ (x : Term). reading p own (t.AppliedTerm (term_model x) (terms_of (map term_model xs))) label types at) here
    ∙ ap (λ (ys : List Term). reading p own (t.AppliedTerm (term_model name.value) (terms_of (map term_model ys))) label types at) items
    ∙ ap (λ (x : TermTree). reading p own x label types at) (sym (ap term_model is ∙ applied_made name arguments))

abbrev element_by : Predefined → Option Symbol → Place → ObjectView → List Term → Label → ReadingTree → ReadingTree
element_by p own place o xs label w = indexed_node p.root place o.types o.subtype.base w (λ index. index_read p own place 0 label o.types index (terms_of (map term_model xs)))

-- the same by what the object's own node is
pub object_element_is : {E : Type 0} (p : Predefined) (own : Option Symbol) (place : Place) (o : ObjectView) (xs : List Term) (label : Label) (w : ReadingTree) (r : Result Reading E)
    → w ≡ object_node p.root place o → IfOk r (λ (x : Reading). reading_model x ≡ element_by p own place o xs label w)
    → IfOk r (λ (x : Reading). reading_model x ≡ element_by p own place o xs label (object_node p.root place o))
object_element_is p own place o xs label w r whole made =
    read_by r (element_by p own place o xs label w) (element_by p own place o xs label (object_node p.root place o)) (ap (element_by p own place o xs label) whole) made

-- ---- membership tests

abbrev tested : Predefined → Place → Bool → List TypeView → ReadingTree → ReadingTree → ReadingTree → ReadingTree
tested p place is_negated types a b c = membership_node p.root place types p.types.boolean.symbol is_negated a b c

abbrev tested_by : Predefined → Option Symbol → Place → TermTree → Bool → TermTree → TermTree → Label → List TypeView → List TypeView → Symbol → ReadingTree
tested_by p own place value is_negated low high label types among of =
    tested p place is_negated types (operand_read p own place 0 value label among of) (operand_read p own place 1 low label among of) (operand_read p own place 2 high label among of)

pub range_member_is : (p : Predefined) (own : Option Symbol) (value : TermTree) (is_negated : Bool) (low high : TermTree) (label : Label) (types among : List TypeView) (of : Symbol) (place : Place) (a b c : ReadingTree)
    → place ≡ first_place value → among ≡ types_in types (test_type p value low high label) → of ≡ (test_type p value low high label).of
    → a ≡ operand_read p own place 0 value label among of → b ≡ operand_read p own place 1 low label among of → c ≡ operand_read p own place 2 high label among of
    → membership_node p.root place types p.types.boolean.symbol is_negated a b c ≡ range_member_read p own value is_negated low high label types
range_member_is p own value is_negated low high label types among of place a b c here kinds kind first second third =
    ap (λ (x : ReadingTree). tested p place is_negated types x b c) first
    ∙ ap (λ (x : ReadingTree). tested p place is_negated types (operand_read p own place 0 value label among of) x c) second
    ∙ ap (λ (x : ReadingTree). tested p place is_negated types (operand_read p own place 0 value label among of) (operand_read p own place 1 low label among of) x) third
    ∙ ap (λ (q : Place). tested_by p own q value is_negated low high label types among of) here
    ∙ ap (λ (xs : List TypeView). tested_by p own (first_place value) value is_negated low high label types xs of) kinds
    ∙ ap (tested_by p own (first_place value) value is_negated low high label types (types_in types (test_type p value low high label))) kind

pub range_member_model : {E : Type 0} (p : Predefined) (own : Option Symbol) (term : Term) (value : Box Term Global) (is_negated : Bool) (low high : Box Term Global) (label : Label) (types among : List TypeView) (at of : Symbol) (place : Place) (a b c : ReadingTree) (r : Result Reading E)
    → term ≡ RangeMember value is_negated low high → place ≡ first_place (term_model value.value)
    → among ≡ types_in types (test_type p (term_model value.value) (term_model low.value) (term_model high.value) label) → of ≡ (test_type p (term_model value.value) (term_model low.value) (term_model high.value) label).of
    → a ≡ operand_read p own place 0 (term_model value.value) label among of → b ≡ operand_read p own place 1 (term_model low.value) label among of → c ≡ operand_read p own place 2 (term_model high.value) label among of
    → IfOk r (λ (x : Reading). reading_model x ≡ membership_node p.root place types p.types.boolean.symbol is_negated a b c)
    → IfOk r (λ (x : Reading). reading_model x ≡ reading p own (term_model term) label types at)
range_member_model p own term value is_negated low high label types among at of place a b c r is here kinds kind first second third made =
    read_by r (membership_node p.root place types p.types.boolean.symbol is_negated a b c) (reading p own (term_model term) label types at)
    (range_member_is p own (term_model value.value) is_negated (term_model low.value) (term_model high.value) label types among of place a b c here kinds kind first second third
    ∙ ap (λ (x : TermTree). reading p own x label types at) (sym (ap term_model is ∙ range_member_made value is_negated low high))) made
