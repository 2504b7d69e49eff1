-- Elements of lists, and tests of them.
use Rattle.std.proofs.Common.{◌≡◌, zero, suc, Bool, true, false, ◌||◌, List, [], ◌∷◌, ◌⊎◌, inl, inr, refl, ap, subst, sym, ◌∙◌, arith}
use Rattle.std.specs.List.{Contains, list_any, flat_map}
use Rattle.std.proofs.lemmas.List.Elements.{Contains-append_left, Contains-append_right, Contains-append_cases, Contains-push}

module _ {X : Type 0} where
  pub nowhere : (x : X) → Contains [] x → ⊥
  nowhere x c = omega (arith, c.1)

  pub the_one : (a x : X) → Contains (a ∷ []) x → a ≡ x
  the_one a x (zero, lt, is) = is
  the_one a x (suc k, lt, is) = absurd (omega (arith, lt))

  pub one : (a : X) → Contains (a ∷ []) a
  one a = Contains-push [] a

  pub first : (a : X) (xs : List X) → Contains (a ∷ xs) a
  first a xs = Contains-append_left (a ∷ []) xs a (one a)

  pub later : (a : X) (xs : List X) (x : X) → Contains xs x → Contains (a ∷ xs) x
  later a xs x c = Contains-append_right (a ∷ []) xs x c

  pub first_or_later : (a : X) (xs : List X) (x : X) → Contains (a ∷ xs) x → (a ≡ x) ⊎ Contains xs x
  first_or_later a xs x c = elim (Contains-append_cases (a ∷ []) xs x c) [ inl h ↦ inl (the_one a x h) | inr h ↦ inr h ]

module _ {X Y : Type 0} (g : X → List Y) where
  pub from_flat_map : (xs : List X) (y : Y) → Contains (flat_map g xs) y → (x : X) × Contains xs x × Contains (g x) y
  from_flat_map [] y c = absurd (nowhere y c)
  from_flat_map (x ∷ xs) y c =
      elim (Contains-append_cases (g x) (flat_map g xs) y c) [
        | inl h ↦ (x, first x xs, h)
        | inr h ↦ let r = from_flat_map xs y h in (r.0, later x xs r.0 r.1, r.2)
      ]

  pub into_flat_map : (xs : List X) (x : X) (y : Y) → Contains xs x → Contains (g x) y → Contains (flat_map g xs) y
  into_flat_map [] x y c d = absurd (nowhere x c)
  into_flat_map (a ∷ xs) x y c d =
      let P : X → Type 0 = λ v. Contains (g v) y in
      elim (first_or_later a xs x c) [
        | inl same ↦ Contains-append_left (g a) (flat_map g xs) y (subst P (sym same) d)
        | inr h ↦ Contains-append_right (g a) (flat_map g xs) y (into_flat_map xs x y h d)
      ]

pub or : (b c : Bool) → (b ≡ true) ⊎ (c ≡ true) → (b || c) ≡ true
or true c is = refl
or false c (inl is) = absurd (cc)
or false c (inr is) = is

module _ {X : Type 0} (p : X → Bool) where
  any_by : (x : X) (xs : List X) (b : Bool) → p x ≡ b → (list_any p xs ≡ true → (y : X) × Contains xs y × (p y ≡ true)) → (b || list_any p xs) ≡ true → (y : X) × Contains (x ∷ xs) y × (p y ≡ true)
  any_by x xs true is rest any = (x, first x xs, is)
  any_by x xs false is rest any = let r = rest any in (r.0, later x xs r.0 r.1, r.2)

  -- an item that passes a test
  pub any_from : (xs : List X) → list_any p xs ≡ true → (y : X) × Contains xs y × (p y ≡ true)
  any_from [] any = absurd (cc)
  any_from (x ∷ xs) any = any_by x xs (p x) refl (any_from xs) any

  pub any_into : (xs : List X) (y : X) → Contains xs y → p y ≡ true → list_any p xs ≡ true
  any_into [] y c is = absurd (nowhere y c)
  any_into (x ∷ xs) y c is =
      or (p x) (list_any p xs) (elim (first_or_later x xs y c) [ inl same ↦ inl (ap p same ∙ is) | inr h ↦ inr (any_into xs y h is) ])
