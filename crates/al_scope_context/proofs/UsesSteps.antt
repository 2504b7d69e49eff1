-- One name more, and one clause more.
use Rattle.std.proofs.Common.{◌≡◌, ℕ, ◌+◌, ◌<◌, List, [], ◌∷◌, ◌++◌, Bool, Option, Some, None, Result, Ok, Err, map, drop, length, get_or, refl, sym, ◌∙◌, ap}
use Rattle.std.specs.Prelude.{IfOk}
use Rattle.std.proofs.lemmas.List.{at_drop_more}
use Rattle.al_base.specs.declared.place.Place.{Place as TextPlace}
use Rattle.al_base.specs.declared.unit_key.UnitKey.{UnitKey}
use Rattle.al_base_fault.specs.Judging.{fault_in, next}
use Rattle.al_base_fault.specs.declared.fault.Fault.{Fault}
use Rattle.al_overload_lookup.specs.Keys.{Denotations, dotted}
use Rattle.al_query.specs.Reads.{Table}
use Rattle.al_query.specs.declared.answer.UseClause.{UseClause}
use Rattle.al_scope.specs.Places.{Place}
use Rattle.al_tree_syntax.specs.DeclarationTrees.{CompoundNameTree}
use Rattle.al_tree.specs.DeclarationViews.{compound_model}
use Rattle.al_tree.specs.Lexemes.{identifier_label}
use Rattle.al_tree.specs.declared.names.CompoundName.{CompoundName}
use Rattle.al_tree.specs.declared.names.Identifier.{Identifier}
use Rattle.al_scope_context.specs.UsesAt.{added, opened_at, opened_from, selector_fault, unless_faulty, visible_key}

-- the rest from a place on
first-of : {X : Type 0} (xs : List X) (i : ℕ) (x : X) → i < length xs → x ≡ get_or xs i x → drop i xs ≡ x ∷ drop (i + 1) xs
first-of xs i x h e = at_drop_more (λ l. l) xs i x h ∙ ap (λ y. y ∷ drop (i + 1) xs) (sym e)

-- a function that gives what was there, or a refusal
pub if_ok : {X E : Type 0} (r : Result X E) (P Q : X → Type 0) → ((x : X) → P x → Q x) → (IfOk r P) → (IfOk r Q)
if_ok (Ok x) P Q f h = f x h
if_ok (Err e) P Q f h = h

-- the key with one selector more
visible-step : (d : Denotations) (p : TextPlace) (key longer : List ℕ) (selectors : List Identifier) (i : ℕ) (s : Identifier) (fault : Option Fault) → i < length selectors → s ≡ get_or selectors i s
    → longer ≡ dotted key (identifier_label s).text
    → fault ≡ selector_fault d p longer (identifier_label s)
    → visible_key d p key (map identifier_label (drop i selectors)) ≡ unless_faulty fault (visible_key d p longer (map identifier_label (drop (i + 1) selectors)))
visible-step d p key longer selectors i s fault h e k f =
    let l = identifier_label s in
    let rest = map identifier_label (drop (i + 1) selectors) in
    ap (λ (xs : List Identifier). visible_key d p key (map identifier_label xs)) (first-of selectors i s h e)
    ∙ ap (λ (n : List ℕ). unless_faulty (selector_fault d p n l) (visible_key d p n rest)) (sym k)
    ∙ ap (λ (o : Option Fault). unless_faulty o (visible_key d p longer rest)) (sym f)

pub visible-more : (d : Denotations) (p : TextPlace) (key longer : List ℕ) (selectors : List Identifier) (i : ℕ) (s : Identifier) (fault : Option Fault) (whole : Result (List ℕ) Fault) → i < length selectors → s ≡ get_or selectors i s
    → longer ≡ dotted key (identifier_label s).text
    → fault ≡ selector_fault d p longer (identifier_label s)
    → fault ≡ None
    → visible_key d p key (map identifier_label (drop i selectors)) ≡ whole
    → visible_key d p longer (map identifier_label (drop (i + 1) selectors)) ≡ whole
visible-more d p key longer selectors i s fault whole h e k f none b =
    let rest = map identifier_label (drop (i + 1) selectors) in
    ap (λ (o : Option Fault). unless_faulty o (visible_key d p longer rest)) (sym none)
    ∙ sym (visible-step d p key longer selectors i s fault h e k f) ∙ b

pub visible-fault : (d : Denotations) (p : TextPlace) (key longer : List ℕ) (selectors : List Identifier) (i : ℕ) (s : Identifier) (fault : Option Fault) (one : Fault) (whole : Result (List ℕ) Fault) → i < length selectors → s ≡ get_or selectors i s
    → longer ≡ dotted key (identifier_label s).text
    → fault ≡ selector_fault d p longer (identifier_label s)
    → fault ≡ Some one
    → visible_key d p key (map identifier_label (drop i selectors)) ≡ whole
    → Err one ≡ whole
visible-fault d p key longer selectors i s fault one whole h e k f some b =
    let rest = map identifier_label (drop (i + 1) selectors) in
    ap (λ (o : Option Fault). unless_faulty o (visible_key d p longer rest)) (sym some)
    ∙ sym (visible-step d p key longer selectors i s fault h e k f) ∙ b

-- one clause more
module _ (t : Table) (place : Place) (packages : List UnitKey) (of_type : Bool) where
  opened-step : (names : List CompoundName) (i : ℕ) (n : CompoundName) (done : List UseClause) (clause : Result UseClause Fault) → i < length names → n ≡ get_or names i n
      → clause ≡ opened_at t place packages of_type (compound_model n)
      → opened_from t place packages of_type done (map compound_model (drop i names))
      ≡ next clause (λ (c : UseClause). opened_from t place packages of_type (done ++ c ∷ []) (map compound_model (drop (i + 1) names)))
  opened-step names i n done clause h e is =
      let rest = map compound_model (drop (i + 1) names) in
      ap (λ (xs : List CompoundName). opened_from t place packages of_type done (map compound_model xs)) (first-of names i n h e)
      ∙ ap (λ (r : Result UseClause Fault). next r (λ (c : UseClause). opened_from t place packages of_type (done ++ c ∷ []) rest)) (sym is)

  next-right : (clause : Result UseClause Fault) (done : List UseClause) (ns : List CompoundNameTree) → fault_in clause ≡ None
      → opened_from t place packages of_type (added done clause) ns ≡ next clause (λ (c : UseClause). opened_from t place packages of_type (done ++ c ∷ []) ns)
  next-right (Ok c) done ns h = refl
  next-right (Err f) done ns h = absurd (cc)

  next-wrong : (clause : Result UseClause Fault) (f : Fault) (done : List UseClause) (ns : List CompoundNameTree) → fault_in clause ≡ Some f
      → Err f ≡ next clause (λ (c : UseClause). opened_from t place packages of_type (done ++ c ∷ []) ns)
  next-wrong (Ok c) f done ns h = absurd (cc)
  next-wrong (Err g) f done ns h = let same : f ≡ g = cc in ap (λ (x : Fault). Err x) same

  pub opened-more : (names : List CompoundName) (i : ℕ) (n : CompoundName) (done after : List UseClause) (clause : Result UseClause Fault) (fault : Option Fault) (whole : Result (List UseClause) Fault) → i < length names → n ≡ get_or names i n
      → clause ≡ opened_at t place packages of_type (compound_model n)
      → fault ≡ fault_in clause → fault ≡ None → after ≡ added done clause
      → opened_from t place packages of_type done (map compound_model (drop i names)) ≡ whole
      → opened_from t place packages of_type after (map compound_model (drop (i + 1) names)) ≡ whole
  opened-more names i n done after clause fault whole h e is f none a b =
      let rest = map compound_model (drop (i + 1) names) in
      ap (λ (cs : List UseClause). opened_from t place packages of_type cs rest) a
      ∙ next-right clause done rest (sym f ∙ none)
      ∙ sym (opened-step names i n done clause h e is) ∙ b

  pub opened-fault : (names : List CompoundName) (i : ℕ) (n : CompoundName) (done : List UseClause) (clause : Result UseClause Fault) (fault : Option Fault) (one : Fault) (whole : Result (List UseClause) Fault) → i < length names → n ≡ get_or names i n
      → clause ≡ opened_at t place packages of_type (compound_model n)
      → fault ≡ fault_in clause → fault ≡ Some one
      → opened_from t place packages of_type done (map compound_model (drop i names)) ≡ whole
      → Err one ≡ whole
  opened-fault names i n done clause fault one whole h e is f some b =
      let rest = map compound_model (drop (i + 1) names) in
      next-wrong clause one done rest (sym f ∙ some)
      ∙ sym (opened-step names i n done clause h e is) ∙ b

  -- the first name, and the others
  pub opened-first : (n : CompoundNameTree) (ns : List CompoundNameTree) (first : List UseClause) (clause : Result UseClause Fault) (fault : Option Fault)
      → clause ≡ opened_at t place packages of_type n → fault ≡ fault_in clause → fault ≡ None → first ≡ added [] clause
      → opened_from t place packages of_type first ns ≡ opened_from t place packages of_type [] (n ∷ ns)
  opened-first n ns first clause fault is f none a =
      ap (λ (cs : List UseClause). opened_from t place packages of_type cs ns) a
      ∙ next-right clause [] ns (sym f ∙ none)
      ∙ ap (λ (r : Result UseClause Fault). next r (λ (c : UseClause). opened_from t place packages of_type ([] ++ c ∷ []) ns)) is

  pub opened-wrong : (n : CompoundNameTree) (ns : List CompoundNameTree) (clause : Result UseClause Fault) (fault : Option Fault) (one : Fault)
      → clause ≡ opened_at t place packages of_type n → fault ≡ fault_in clause → fault ≡ Some one
      → Err one ≡ opened_from t place packages of_type [] (n ∷ ns)
  opened-wrong n ns clause fault one is f some =
      next-wrong clause one [] ns (sym f ∙ some)
      ∙ ap (λ (r : Result UseClause Fault). next r (λ (c : UseClause). opened_from t place packages of_type ([] ++ c ∷ []) ns)) is
