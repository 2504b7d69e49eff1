-- Parts that are read one after another.
use Rattle.std.specs.Option.{option_map_or}
use Rattle.std.specs.Prelude.{slice_get}
use Rattle.std.specs.Slice.{IsItemAt}
use Rattle.std.proofs.lemmas.Option.{slice_get_read}
use Rattle.std.proofs.Common.{Bool, Bor, false, ◌≡◌, ℕ, suc, ◌+◌, ◌<◌, ◌≤◌, List, ◌∷◌, map, length, get_or, drop, Option, Some, None, Result, Ok, Err, OnOk, refl, sym, ap, subst, ◌∙◌, add-one}
use Rattle.std.proofs.Math.Seq.{drop-cons}
use Rattle.std.proofs.lemmas.List.{drop_all}
use Rattle.al_base.specs.declared.place.Place.{Place}
use Rattle.al_overload.specs.Meanings.{nothing_fits}
use Rattle.al_overload.specs.Labelling.{Label, Labels}
use Rattle.al_overload.specs.declared.everywhere.Predefined.{Predefined}
use Rattle.al_overload.specs.Places.{first_place}
use Rattle.al_overload.specs.TermViews.{term_model, terms_of}
use Rattle.al_overload.specs.declared.heads_term.Term.{Term}
use Rattle.al_view_typed.specs.ExpressionTrees.{ActualTree, ValueTree}
use Rattle.al_view.specs.declared.symbol.Symbol.{Symbol}
use Rattle.al_view.specs.declared.types.TypeView.{TypeView}
use Rattle.al_view.specs.declared.types.Bounds.{Bounds}
use Rattle.al_view.specs.declared.types.Subtype.{Subtype}
use Rattle.al_view.specs.declared.view.Parameter.{Parameter}
use Rattle.al_view.specs.declared.view.SubprogramView.{SubprogramView}
use Rattle.al_overload_nodes.specs.Calls.{with_actual}
use Rattle.al_overload_nodes.specs.Gathering.{Parts, with_part}
use Rattle.al_overload_nodes.specs.Nodes.{ReadingTree}
use Rattle.al_overload_nodes.proofs.OperandLabels.{next_is}
use Rattle.al_overload_nodes.specs.OperandLabels.{actual_with, component_with, labels_from, next_label, operand_labels}
use Rattle.al_overload_nodes.specs.Variables.{variable_as}
use Rattle.al_overload.specs.Labels.{operand_label}
use Rattle.al_overload.specs.PickedTypes.{range_in}
use Rattle.al_overload_nodes.specs.Readings.{actuals_read, reading, values_read}
use Rattle.al_overload_nodes.specs.Leaves.{actual_of, actual_read, component_of_type, component_read, labelled, value_of, with_value}

-- a list from one of its elements on
pub drop_here : {A : Type 0} (xs : List A) (i : ℕ) (x : A) → i < length xs → x ≡ get_or xs i x → drop i xs ≡ x ∷ drop (i + 1) xs
drop_here xs i x within is =
    drop-cons xs i x within ∙ ap (λ y. y ∷ drop (suc i) xs) (sym is) ∙ ap (λ (k : ℕ). x ∷ drop k xs) (sym (add-one i))

actuals_step : (p : Predefined) (own : Option Symbol) (s : SubprogramView) (label : Label) (ts : List Term) (i : ℕ) (x : Term) (a b whole : Parts ActualTree)
    → actuals_read p own s label i a (terms_of (map term_model (drop i ts))) ≡ whole
    → i < length ts → x ≡ get_or ts i x
    → b ≡ actual_read s label i a (first_place (term_model x)) (option_map_or (variable_as (term_model x)) (operand_label i label) false) (λ l of. reading p own (term_model x) l s.types of)
    → actuals_read p own s label (i + 1) b (terms_of (map term_model (drop (i + 1) ts))) ≡ whole
actuals_step p own s label ts i x a b whole so_far within is more =
    ap (λ (c : Parts ActualTree). actuals_read p own s label (i + 1) c (terms_of (map term_model (drop (i + 1) ts)))) more
    ∙ sym (ap (λ (l : List Term). actuals_read p own s label i a (terms_of (map term_model l))) (drop_here ts i x within is))
    ∙ so_far

-- the one with the label that comes next
pub actuals_next : (p : Predefined) (own : Option Symbol) (s : SubprogramView) (label : Label) (ts : List Term) (i : ℕ) (x : Term) (a b whole : Parts ActualTree) (labels : Labels) (one : Option Label)
    → actuals_read p own s label i a (terms_of (map term_model (drop i ts))) ≡ whole
    → labels ≡ labels_from i (operand_labels label) → one ≡ next_label labels
    → i < length ts → x ≡ get_or ts i x
    → b ≡ actual_with s one i a (first_place (term_model x)) (option_map_or (variable_as (term_model x)) one false) (λ l of. reading p own (term_model x) l s.types of)
    → actuals_read p own s label (i + 1) b (terms_of (map term_model (drop (i + 1) ts))) ≡ whole
actuals_next p own s label ts i x a b whole labels one so_far from is within same more =
    actuals_step p own s label ts i x a b whole so_far within same
    (more ∙ ap (λ (o : Option Label). actual_with s o i a (first_place (term_model x)) (option_map_or (variable_as (term_model x)) o false) (λ l of. reading p own (term_model x) l s.types of)) (next_is i label labels one from is))

pub actuals_done : (p : Predefined) (own : Option Symbol) (s : SubprogramView) (label : Label) (ts : List Term) (i : ℕ) (a whole : Parts ActualTree)
    → actuals_read p own s label i a (terms_of (map term_model (drop i ts))) ≡ whole → length ts ≤ i → a ≡ whole
actuals_done p own s label ts i a whole so_far past =
    sym (ap (λ (l : List Term). actuals_read p own s label i a (terms_of (map term_model l))) (drop_all i ts past)) ∙ so_far

values_step : (p : Predefined) (own : Option Symbol) (types : List TypeView) (at : Symbol) (label : Label) (ts : List Term) (i : ℕ) (x : Term) (a b whole : Parts ValueTree)
    → values_read p own types at label i a (terms_of (map term_model (drop i ts))) ≡ whole
    → i < length ts → x ≡ get_or ts i x
    → b ≡ component_read types at label i a (first_place (term_model x)) (λ l of. reading p own (term_model x) l types of)
    → values_read p own types at label (i + 1) b (terms_of (map term_model (drop (i + 1) ts))) ≡ whole
values_step p own types at label ts i x a b whole so_far within is more =
    ap (λ (c : Parts ValueTree). values_read p own types at label (i + 1) c (terms_of (map term_model (drop (i + 1) ts)))) more
    ∙ sym (ap (λ (l : List Term). values_read p own types at label i a (terms_of (map term_model l))) (drop_here ts i x within is))
    ∙ so_far

-- the one with the label that comes next
pub values_next : (p : Predefined) (own : Option Symbol) (types : List TypeView) (at : Symbol) (label : Label) (ts : List Term) (i : ℕ) (x : Term) (a b whole : Parts ValueTree) (labels : Labels) (one : Option Label)
    → values_read p own types at label i a (terms_of (map term_model (drop i ts))) ≡ whole
    → labels ≡ labels_from i (operand_labels label) → one ≡ next_label labels
    → i < length ts → x ≡ get_or ts i x
    → b ≡ component_with types at one i a (first_place (term_model x)) (λ l of. reading p own (term_model x) l types of)
    → values_read p own types at label (i + 1) b (terms_of (map term_model (drop (i + 1) ts))) ≡ whole
values_next p own types at label ts i x a b whole labels one so_far from is within same more =
    values_step p own types at label ts i x a b whole so_far within same
    (more ∙ ap (λ (o : Option Label). component_with types at o i a (first_place (term_model x)) (λ l of. reading p own (term_model x) l types of)) (next_is i label labels one from is))

pub values_done : (p : Predefined) (own : Option Symbol) (types : List TypeView) (at : Symbol) (label : Label) (ts : List Term) (i : ℕ) (a whole : Parts ValueTree)
    → values_read p own types at label i a (terms_of (map term_model (drop i ts))) ≡ whole → length ts ≤ i → a ≡ whole
values_done p own types at label ts i a whole so_far past =
    sym (ap (λ (l : List Term). values_read p own types at label i a (terms_of (map term_model l))) (drop_all i ts past)) ∙ so_far

-- what a slice lends is an element of the list
pub item_there : {X : Type 0} (xs ys : List X) (i : ℕ) (r : Option (Bor X)) (x : Bor X) → ys ≡ xs → IsItemAt ys i r → r ≡ Some x → slice_get xs i ≡ Some x.now
item_there {X} xs ys i r x same item is =
    let P : Option (Bor X) → Type 0 = λ o. IsItemAt ys i o in
    let there : IsItemAt ys i (Some x) = subst P is item in
    sym (ap (λ (l : List X). slice_get l i) same) ∙ slice_get_read ys (length ys) i x.now refl there.3.0 there.1

-- what is read of one part, by what it is read of
pub actual_made : {X E : Type 0} (r : Result X E) (s : SubprogramView) (label : Option Label) (k : ℕ) (old new : Parts ActualTree) (here : Place) (v : Bool) (read : Label → Symbol → ReadingTree) (q : Parameter) (place : Place) (range : Option Bounds) (w : Bool) (value : ReadingTree)
    → slice_get s.profile.parameters k ≡ Some q → place ≡ here → range ≡ range_in s.types q.subtype → w ≡ v
    → value ≡ labelled place (λ l. read l q.subtype.base) label
    → OnOk r (new ≡ with_actual old q.mode range place w value)
    → OnOk r (new ≡ actual_with s label k old here v read)
actual_made (Ok x) s label k old new here v read q place range w value found there ranged variable is made =
    made
    ∙ ap (with_actual old q.mode range place w) is
    ∙ ap (λ (b : Bool). with_actual old q.mode range place b (labelled place (λ l. read l q.subtype.base) label)) variable
    ∙ ap (λ (b : Option Bounds). with_actual old q.mode b place v (labelled place (λ l. read l q.subtype.base) label)) ranged
    ∙ ap (λ (z : Place). with_actual old q.mode (range_in s.types q.subtype) z v (labelled z (λ l. read l q.subtype.base) label)) there
    ∙ sym (ap (λ (o : Option Parameter). option_map_or (actual_of s label old here v read) o (with_part old None (Err (nothing_fits here)))) found)
actual_made (Err e) s label k old new here v read q place range w value found there ranged variable is made = tt

pub component_made : {X E : Type 0} (r : Result X E) (types : List TypeView) (at : Symbol) (label : Option Label) (k : ℕ) (old new : Parts ValueTree) (here : Place) (read : Label → Symbol → ReadingTree) (q : Subtype) (place : Place) (range : Option Bounds) (value : ReadingTree)
    → component_of_type types at k ≡ Some q → place ≡ here → range ≡ range_in types q
    → value ≡ labelled place (λ l. read l q.base) label
    → OnOk r (new ≡ with_value old range value)
    → OnOk r (new ≡ component_with types at label k old here read)
component_made (Ok x) types at label k old new here read q place range value found there ranged is made =
    made
    ∙ ap (with_value old range) is
    ∙ ap (λ (b : Option Bounds). with_value old b (labelled place (λ l. read l q.base) label)) ranged
    ∙ ap (λ (z : Place). with_value old (range_in types q) (labelled z (λ l. read l q.base) label)) there
    ∙ sym (ap (λ (o : Option Subtype). option_map_or (value_of types label old here read) o (with_part old None (Err (nothing_fits here)))) found)
component_made (Err e) types at label k old new here read q place range value found there ranged is made = tt
