-- What is found first in a list, by what is left of it.
use Rattle.std.proofs.Common.{◌≡◌, ◌<◌, ◌≤◌, ℕ, suc, zero, ◌+◌, arith, Bool, true, false, List, [], ◌∷◌, Option, Some, None, drop, get_or, length, map, add-one, drop-cons, refl, sym, ap, ◌∙◌, if◌then◌else◌}
use Rattle.std.specs.Prelude.{is_some}
use Rattle.al_tree.specs.StatementViews.{operation_bodies_of, operation_body_model}
use Rattle.al_tree.specs.declared.statement.OperationBody.{OperationBody}
use Rattle.al_view.specs.declared.symbol.Symbol.{Symbol}
use Rattle.al_view.specs.declared.types.Component.{Component}
use Rattle.al_view.specs.declared.view.ObjectPlace.{ObjectPlace}
use Rattle.al_view.specs.declared.view.ObjectPlace.TheVariants.{Static}
use Rattle.al_view.specs.declared.view.Operation.{Operation}
use Rattle.al_view.specs.declared.view.ProtectedView.{ProtectedView}
use Rattle.al_check_declared.specs.Barriers.{barrier_among, either, entry_among, first_barrier, is_barrier, own_barrier, own_entry}
use Rattle.al_check_declared.specs.ObjectRegions.{word_after}

-- what is left begins with the element at the index
left : {A : Type 0} (xs : List A) (i : ℕ) (x : A) → i < length xs → x ≡ get_or xs i x → drop i xs ≡ x ∷ drop (suc i) xs
left {A} xs i x h e = drop-cons xs i x h ∙ ap (λ (y : A). y ∷ drop (suc i) xs) (sym e)

none_left : {A : Type 0} (xs : List A) (i : ℕ) → length xs ≤ i → drop i xs ≡ []
none_left [] zero h = refl
none_left [] (suc i) h = refl
none_left (x ∷ xs) zero h = grind arith
none_left (x ∷ xs) (suc i) h = none_left xs i (omega arith)

the_first : {A : Type 0} (found later : Option A) → is_some found ≡ true → either found later ≡ found
the_first None later h = absurd (cc)
the_first (Some a) later h = refl

the_later : {A : Type 0} (found later : Option A) → is_some found ≡ false → either found later ≡ later
the_later None later h = refl
the_later (Some a) later h = absurd (cc)

-- ---- barriers

module _ (object : ProtectedView) (name : List ℕ) (of : Symbol) (word : ℕ) (cs : List Component) (i : ℕ) where
  at_component : (c : Component) → i < length cs → c ≡ get_or cs i c → (b : Bool) → is_barrier name of c ≡ b
      → barrier_among object name of word (drop i cs) ≡ (if b then Some (Static object.symbol word) else barrier_among object name of (word_after object c word) (drop (suc i) cs))
  at_component c h e b is =
      ap (barrier_among object name of word) (left cs i c h e)
      ∙ ap (λ (t : Bool). if t then Some (Static object.symbol word) else barrier_among object name of (word_after object c word) (drop (suc i) cs)) is

  pub barrier_passed : (c : Component) (after : ℕ) → i < length cs → c ≡ get_or cs i c → is_barrier name of c ≡ false → after ≡ word_after object c word
      → barrier_among object name of after (drop (i + 1) cs) ≡ barrier_among object name of word (drop i cs)
  barrier_passed c after h e fails after_is =
      rw add-one (ap (λ (w : ℕ). barrier_among object name of w (drop (suc i) cs)) after_is ∙ sym (at_component c h e false fails))

  pub barrier_found : (c : Component) → i < length cs → c ≡ get_or cs i c → is_barrier name of c ≡ true → Some (Static object.symbol word) ≡ barrier_among object name of word (drop i cs)
  barrier_found c h e holds = sym (at_component c h e true holds)

  pub no_barrier : length cs ≤ i → None ≡ barrier_among object name of word (drop i cs)
  no_barrier h = sym (ap (barrier_among object name of word) (none_left cs i h))

-- ---- entries

module _ (os : List Operation) (i : ℕ) where
  at_operation : (o : Operation) → i < length os → o ≡ get_or os i o → (found : Option Symbol) → found ≡ own_entry o → entry_among (drop i os) ≡ either found (entry_among (drop (suc i) os))
  at_operation o h e found is = ap entry_among (left os i o h e) ∙ ap (λ (f : Option Symbol). either f (entry_among (drop (suc i) os))) (sym is)

  pub entry_passed : (o : Operation) (found : Option Symbol) → i < length os → o ≡ get_or os i o → found ≡ own_entry o → is_some found ≡ false → entry_among (drop (i + 1) os) ≡ entry_among (drop i os)
  entry_passed o found h e is fails = rw add-one (sym (at_operation o h e found is ∙ the_later found (entry_among (drop (suc i) os)) fails))

  pub entry_found : (o : Operation) (found : Option Symbol) → i < length os → o ≡ get_or os i o → found ≡ own_entry o → is_some found ≡ true → found ≡ entry_among (drop i os)
  entry_found o found h e is holds = sym (at_operation o h e found is ∙ the_first found (entry_among (drop (suc i) os)) holds)

  pub no_entry : length os ≤ i → None ≡ entry_among (drop i os)
  no_entry h = sym (ap entry_among (none_left os i h))

-- ---- barriers of bodies

abbrev barrier_in : ProtectedView → List OperationBody → Option ObjectPlace
barrier_in object bs = first_barrier object (operation_bodies_of (map operation_body_model bs))

module _ (object : ProtectedView) (bs : List OperationBody) (i : ℕ) where
  at_body : (b : OperationBody) → i < length bs → b ≡ get_or bs i b → (found : Option ObjectPlace) → found ≡ own_barrier object (operation_body_model b)
      → barrier_in object (drop i bs) ≡ either found (barrier_in object (drop (suc i) bs))
  at_body b h e found is = ap (barrier_in object) (left bs i b h e) ∙ ap (λ (f : Option ObjectPlace). either f (barrier_in object (drop (suc i) bs))) (sym is)

  pub body_passed : (b : OperationBody) (found : Option ObjectPlace) → i < length bs → b ≡ get_or bs i b → found ≡ own_barrier object (operation_body_model b) → is_some found ≡ false
      → barrier_in object (drop (i + 1) bs) ≡ barrier_in object (drop i bs)
  body_passed b found h e is fails = rw add-one (sym (at_body b h e found is ∙ the_later found (barrier_in object (drop (suc i) bs)) fails))

  pub body_found : (b : OperationBody) (found : Option ObjectPlace) → i < length bs → b ≡ get_or bs i b → found ≡ own_barrier object (operation_body_model b) → is_some found ≡ true → found ≡ barrier_in object (drop i bs)
  body_found b found h e is holds = sym (at_body b h e found is ∙ the_first found (barrier_in object (drop (suc i) bs)) holds)

  pub no_body : length bs ≤ i → None ≡ barrier_in object (drop i bs)
  no_body h = sym (ap (barrier_in object) (none_left bs i h))
