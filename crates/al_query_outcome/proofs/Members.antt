-- Members of lists of units.
use Rattle.std.proofs.Common.{◌≡◌, Bool, true, false, ◌&&◌, List, [], ◌∷◌, ◌++◌, inl, inr, refl, sym, ◌∙◌, ap, subst, map}
use Rattle.std.specs.List.{Contains, list_all, flat_map}
use Rattle.std.proofs.lemmas.List.Elements.{Contains-append_left, Contains-append_cases}
use Rattle.al_base.specs.declared.unit_key.UnitKey.{UnitKey}
use Rattle.al_view.proofs.SymbolLemmas.{same_unit-one, same_unit-self}
use Rattle.al_view.specs.Symbols.{same_unit}
use Rattle.al_query.specs.Known.{has_unit}
use Rattle.al_base_graph.proofs.Members.{any_from, any_into, first, first_or_later, later, nowhere}

-- each unit of a list
abbrev pub Each : (UnitKey → Type 0) → List UnitKey → Type 0
Each P us = (x : UnitKey) → Contains us x → P x

pub has-contains : (us : List UnitKey) (x : UnitKey) → has_unit us x ≡ true → Contains us x
has-contains us x h =
    let r = any_from (same_unit x) us h in
    subst (λ (y : UnitKey). Contains us y) (sym (same_unit-one x r.0 r.2)) r.1

pub contains-has : (us : List UnitKey) (x : UnitKey) → Contains us x → has_unit us x ≡ true
contains-has us x c = any_into (same_unit x) us x c (same_unit-self x)

module _ (P : UnitKey → Type 0) where
  pub each-none : Each P []
  each-none x c = absurd (nowhere x c)

  pub each-one : (u : UnitKey) → P u → Each P (u ∷ [])
  each-one u p x c = elim (first_or_later u [] x c) as (λ _. P x) [ inl is ↦ subst P is p | inr h ↦ absurd (nowhere x h) ]

  pub each-cons : (u : UnitKey) (us : List UnitKey) → P u → Each P us → Each P (u ∷ us)
  each-cons u us p ps x c = elim (first_or_later u us x c) as (λ _. P x) [ inl is ↦ subst P is p | inr h ↦ ps x h ]

  pub each-append : (us vs : List UnitKey) → Each P us → Each P vs → Each P (us ++ vs)
  each-append us vs a b x c = elim (Contains-append_cases us vs x c) as (λ _. P x) [ inl h ↦ a x h | inr h ↦ b x h ]

  pub each-left : (us vs : List UnitKey) → Each P (us ++ vs) → Each P us
  each-left us vs a x c = a x (Contains-append_left us vs x c)

module _ (P : UnitKey → Type 0) {X : Type 0} where
  pub each-map : (g : X → UnitKey) (xs : List X) → ((n : X) → Contains xs n → P (g n)) → Each P (map g xs)
  each-map g [] h = each-none P
  each-map g (x ∷ xs) h = each-cons P (g x) (map g xs) (h x (first x xs)) (each-map g xs (λ n c. h n (later x xs n c)))

  pub each-flat : (g : X → List UnitKey) (xs : List X) → ((n : X) → Contains xs n → Each P (g n)) → Each P (flat_map g xs)
  each-flat g [] h = each-none P
  each-flat g (x ∷ xs) h = each-append P (g x) (flat_map g xs) (h x (first x xs)) (each-flat g xs (λ n c. h n (later x xs n c)))

module _ {X : Type 0} (p : X → Bool) where
  all-split : (a b : Bool) → (a && b) ≡ true → (a ≡ true) × (b ≡ true)
  all-split true b h = (refl, h)
  all-split false b h = absurd (cc)

  pub all-at : (xs : List X) (x : X) → list_all p xs ≡ true → Contains xs x → p x ≡ true
  all-at [] x h c = absurd (nowhere x c)
  all-at (y ∷ ys) x h c =
      let two = all-split (p y) (list_all p ys) h in
      elim (first_or_later y ys x c) as (λ _. p x ≡ true) [ inl is ↦ subst (λ (z : X). p z ≡ true) is two.0 | inr k ↦ all-at ys x two.1 k ]

  -- two tests that give the same of each member
  pub all-same : (q : X → Bool) (xs : List X) → ((x : X) → Contains xs x → p x ≡ q x) → list_all p xs ≡ list_all q xs
  all-same q [] h = refl
  all-same q (y ∷ ys) h =
      ap (λ b. b && list_all p ys) (h y (first y ys)) ∙ ap (λ b. q y && b) (all-same q ys (λ x c. h x (later y ys x c)))
