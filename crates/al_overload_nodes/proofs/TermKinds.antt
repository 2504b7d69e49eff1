-- What terms of each kind are by what their operands are.
use Rattle.std.proofs.Common.{◌≡◌, ℕ, ◌≤◌, Bool, List, [], ◌∷◌, map, length, Result, Ok, Err, IfOk, Option, sym, ap, subst, ◌∙◌, arith, Vec, Box, Global}
use Rattle.al_base.specs.declared.place.Place.{Place}
use Rattle.al_overload.specs.Labelling.{Label}
use Rattle.al_base_fault.specs.Judging.{map_ok}
use Rattle.al_base_fault.specs.declared.fault.Fault.{Fault}
use Rattle.al_overload.proofs.TermsMade.{applied_made, member_made, selected_made}
use Rattle.al_overload.specs.Places.{first_place}
use Rattle.al_overload.specs.Terms.{TermTree, TermTree as t}
use Rattle.al_overload.specs.TermViews.{term_model, terms_of}
use Rattle.al_overload.specs.declared.heads_term.Term.{Term}
use Rattle.al_overload.specs.declared.heads_term.Term.TheVariants.{Applied, Member, Selected}
use Rattle.al_view_typed.specs.ExpressionTrees.{CallTree}
use Rattle.al_view_typed.specs.ExpressionViews.{call_model}
use Rattle.al_view_typed.specs.declared.expression.TypedCall.{TypedCall}
use Rattle.al_view_typed.specs.declared.label.Conversion.{Conversion}
use Rattle.al_view.specs.declared.symbol.Symbol.{Symbol}
use Rattle.al_view.specs.declared.types.TypeView.{TypeView}
use Rattle.al_view.specs.declared.view.SubtypeView.{SubtypeView}
use Rattle.al_overload.specs.declared.everywhere.Predefined.{Predefined}
use Rattle.al_overload_nodes.specs.Nodes.{ReadingTree, misfit}
use Rattle.al_overload_nodes.specs.Views.{reading_model}
use Rattle.al_overload_nodes.specs.declared.node.Reading.{Reading}
use Rattle.al_overload_nodes.specs.Leaves.{argument_type, attribute_node, in_mark_node}
use Rattle.al_overload_nodes.specs.Contexts.{call_read}
use Rattle.al_overload_nodes.specs.Readings.{index_read, member_read, operand_read, reading}

-- a fact of what was read, by an equation
pub read_by : {E : Type 0} (r : Result Reading E) (a b : ReadingTree) → a ≡ b → IfOk r (λ (x : Reading). reading_model x ≡ a) → IfOk r (λ (x : Reading). reading_model x ≡ b)
read_by r a b e h = let P : ReadingTree → Type 0 = λ z. IfOk r (λ (x : Reading). reading_model x ≡ z) in subst P e h

-- what is known of a reading is known of it on the heap
pub kept_is : {D E : Type 0} (a : ReadingTree) (made : Result Reading D) (r : Result (Box Reading Global) E) → IfOk made (λ (x : Reading). reading_model x ≡ a)
    → IfOk r (λ (b : Box Reading Global). made ≡ Ok b.value) → IfOk r (λ (b : Box Reading Global). reading_model b.value ≡ a)
kept_is {D} a made (Ok b) h e = let P : Result Reading D → Type 0 = λ m. IfOk m (λ (x : Reading). reading_model x ≡ a) in subst P e h
kept_is a made (Err k) h e = tt

-- a fact of a call, by an equation
pub call_by : {E : Type 0} (r : Result (Result TypedCall Fault) E) (a b : Result CallTree Fault) → a ≡ b → IfOk r (λ (x : Result TypedCall Fault). map_ok call_model x ≡ a) → IfOk r (λ (x : Result TypedCall Fault). map_ok call_model x ≡ b)
call_by r a b e h = let P : Result CallTree Fault → Type 0 = λ z. IfOk r (λ (x : Result TypedCall Fault). map_ok call_model x ≡ z) in subst P e h

pub selected_model : {E : Type 0} (p : Predefined) (own : Option Symbol) (term : Term) (prefix : Box Term Global) (name : List ℕ) (label : Label) (types : List TypeView) (at : Symbol) (v : Term) (n : List ℕ) (r : Result Reading E)
    → term ≡ Selected prefix name → v ≡ prefix.value → n ≡ name
    → IfOk r (λ (x : Reading). reading_model x ≡ reading p own (t.SelectedTerm (term_model v) n) label types at)
    → IfOk r (λ (x : Reading). reading_model x ≡ reading p own (term_model term) label types at)
selected_model p own term prefix name label types at v n r is here spelled made =
    read_by r (reading p own (t.SelectedTerm (term_model v) n) label types at) (reading p own (term_model term) label types at)
    (ap (λ (x : TermTree). reading p own x label types at)
    (ap (λ (x : Term). t.SelectedTerm (term_model x) n) here
    ∙ ap (λ (y : List ℕ). t.SelectedTerm (term_model prefix.value) y) spelled
    ∙ sym (ap term_model is ∙ selected_made prefix name))) made

pub attribute_is : {E : Type 0} (p : Predefined) (own : Option Symbol) (place : Place) (conversion : Conversion) (mark : SubtypeView) (argument : TermTree) (label : Label) (types : List TypeView) (at of : Symbol) (a : ReadingTree) (r : Result Reading E)
    → of ≡ argument_type p.root conversion mark → a ≡ operand_read p own place 0 argument label mark.types of
    → IfOk r (λ (x : Reading). reading_model x ≡ attribute_node p.root place conversion mark types at a)
    → IfOk r (λ (x : Reading). reading_model x ≡ reading p own (t.AttributeTerm place conversion mark argument) label types at)
attribute_is p own place conversion mark argument label types at of a r of_type first made =
    read_by r (attribute_node p.root place conversion mark types at a) (reading p own (t.AttributeTerm place conversion mark argument) label types at)
    (ap (attribute_node p.root place conversion mark types at) (first ∙ ap (operand_read p own place 0 argument label mark.types) of_type)) made

pub member_is : {E : Type 0} (p : Predefined) (own : Option Symbol) (value : TermTree) (is_negated : Bool) (mark : SubtypeView) (label : Label) (place : Place) (a : ReadingTree) (r : Result Reading E)
    → place ≡ first_place value → a ≡ operand_read p own place 0 value label mark.types mark.subtype.base
    → IfOk r (λ (x : Reading). reading_model x ≡ in_mark_node p place is_negated mark a)
    → IfOk r (λ (x : Reading). reading_model x ≡ member_read p own value is_negated mark label)
member_is p own value is_negated mark label place a r here first made =
    read_by r (in_mark_node p place is_negated mark a) (member_read p own value is_negated mark label)
    (ap (in_mark_node p place is_negated mark) first
    ∙ ap (λ (q : Place). in_mark_node p q is_negated mark (operand_read p own q 0 value label mark.types mark.subtype.base)) here) made

pub member_model : {E : Type 0} (p : Predefined) (own : Option Symbol) (term : Term) (value : Box Term Global) (is_negated : Bool) (mark : SubtypeView) (label : Label) (types : List TypeView) (at : Symbol) (v : Term) (r : Result Reading E)
    → term ≡ Member value is_negated mark → v ≡ value.value
    → IfOk r (λ (x : Reading). reading_model x ≡ member_read p own (term_model v) is_negated mark label)
    → IfOk r (λ (x : Reading). reading_model x ≡ reading p own (term_model term) label types at)
member_model p own term value is_negated mark label types at v r is here made =
    read_by r (member_read p own (term_model v) is_negated mark label) (reading p own (term_model term) label types at)
    (ap (λ (x : Term). member_read p own (term_model x) is_negated mark label) here
    ∙ ap (λ (x : TermTree). reading p own x label types at) (sym (ap term_model is ∙ member_made value is_negated mark))) made

-- more than one index
pub many_indexes : (p : Predefined) (own : Option Symbol) (place : Place) (k : ℕ) (label : Label) (types : List TypeView) (at : Symbol) (ts : List Term) (r : ReadingTree)
    → 2 ≤ length ts → r ≡ misfit place → r ≡ index_read p own place k label types at (terms_of (map term_model ts))
many_indexes p own place k label types at [] r many e = absurd (omega arith)
many_indexes p own place k label types at (x ∷ []) r many e = absurd (omega arith)
many_indexes p own place k label types at (x ∷ (y ∷ more)) r many e = e

pub applied_call : {E : Type 0} (p : Predefined) (own : Option Symbol) (term : Term) (name : Box Term Global) (arguments : Vec Term Global) (label : Label) (n : Term) (xs : List Term) (r : Result (Result TypedCall Fault) E)
    → term ≡ Applied name arguments → n ≡ name.value → xs ≡ arguments.items
    → IfOk r (λ (x : Result TypedCall Fault). map_ok call_model x ≡ call_read p own (t.AppliedTerm (term_model n) (terms_of (map term_model xs))) label)
    → IfOk r (λ (x : Result TypedCall Fault). map_ok call_model x ≡ call_read p own (term_model term) label)
applied_call p own term name arguments label n xs r is here items made =
    call_by r (call_read p own (t.AppliedTerm (term_model n) (terms_of (map term_model xs))) label) (call_read p own (term_model term) label)
    (ap (λ (x : Term). call_read p own (t.AppliedTerm (term_model x) (terms_of (map term_model xs))) label) here
    ∙ ap (λ (ys : List Term). call_read p own (t.AppliedTerm (term_model name.value) (terms_of (map term_model ys))) label) items
    ∙ ap (λ (x : TermTree). call_read p own x label) (sym (ap term_model is ∙ applied_made name arguments))) made
