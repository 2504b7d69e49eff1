-- Elements of lists that are mapped, filtered or tested.
use Rattle.std.proofs.Common.{◌≡◌, Bool, true, false, ◌&&◌, cond, List, [], ◌∷◌, ◌⊎◌, inl, inr, map, refl, ap, subst, sym, ◌∙◌}
use Rattle.std.specs.List.{Contains, filter, list_all}
use Rattle.al_base_graph.proofs.Members.{nowhere, first, later, first_or_later}

pub map_twice : {X Y Z : Type 0} (g : Y → Z) (f : X → Y) (xs : List X) → map (λ x. g (f x)) xs ≡ map g (map f xs)
map_twice g f [] = refl
map_twice g f (x ∷ xs) = ap (λ zs. g (f x) ∷ zs) (map_twice g f xs)

module _ {X Y : Type 0} (f : X → Y) where
  pub from_map : (xs : List X) (y : Y) → Contains (map f xs) y → (x : X) × Contains xs x × (f x ≡ y)
  from_map [] y c = absurd (nowhere y c)
  from_map (x ∷ xs) y c =
      elim (first_or_later (f x) (map f xs) y c) [
        | inl is ↦ (x, first x xs, is)
        | inr h ↦ let r = from_map xs y h in (r.0, later x xs r.0 r.1, r.2)
      ]

  pub into_map : (xs : List X) (x : X) → Contains xs x → Contains (map f xs) (f x)
  into_map [] x c = absurd (nowhere x c)
  into_map (a ∷ xs) x c =
      elim (first_or_later a xs x c) [
        | inl is ↦ subst (λ v. Contains (f a ∷ map f xs) (f v)) is (first (f a) (map f xs))
        | inr h ↦ later (f a) (map f xs) (f x) (into_map xs x h)
      ]

module _ {X : Type 0} (p : X → Bool) where
  from_filter_by : (a : X) (xs : List X) (b : Bool) → p a ≡ b → (x : X) → (Contains (filter p xs) x → Contains xs x × (p x ≡ true)) → Contains (cond b (a ∷ filter p xs) (filter p xs)) x → Contains (a ∷ xs) x × (p x ≡ true)
  from_filter_by a xs true is x rest c =
      elim (first_or_later a (filter p xs) x c) [
        | inl same ↦ (subst (λ v. Contains (a ∷ xs) v) same (first a xs), ap p (sym same) ∙ is)
        | inr h ↦ (later a xs x (rest h).0, (rest h).1)
      ]
  from_filter_by a xs false is x rest c = (later a xs x (rest c).0, (rest c).1)

  pub from_filter : (xs : List X) (x : X) → Contains (filter p xs) x → Contains xs x × (p x ≡ true)
  from_filter [] x c = absurd (nowhere x c)
  from_filter (a ∷ xs) x c = from_filter_by a xs (p a) refl x (from_filter xs x) c

  into_filter_by : (a : X) (xs : List X) (b : Bool) → p a ≡ b → (x : X) → p x ≡ true → (a ≡ x) ⊎ Contains (filter p xs) x → Contains (cond b (a ∷ filter p xs) (filter p xs)) x
  into_filter_by a xs true is x passes (inl same) = subst (λ v. Contains (a ∷ filter p xs) v) same (first a (filter p xs))
  into_filter_by a xs false is x passes (inl same) = absurd (let e = sym is ∙ ap p same ∙ passes in cc)
  into_filter_by a xs true is x passes (inr h) = later a (filter p xs) x h
  into_filter_by a xs false is x passes (inr h) = h

  pub into_filter : (xs : List X) (x : X) → Contains xs x → p x ≡ true → Contains (filter p xs) x
  into_filter [] x c passes = absurd (nowhere x c)
  into_filter (a ∷ xs) x c passes =
      into_filter_by a xs (p a) refl x passes (elim (first_or_later a xs x c) [ inl same ↦ inl same | inr h ↦ inr (into_filter xs x h passes) ])

  all_by : (a : X) (xs : List X) (b : Bool) → p a ≡ b → ((x : X) → Contains xs x → list_all p xs ≡ true → p x ≡ true) → (b && list_all p xs) ≡ true → (x : X) → Contains (a ∷ xs) x → p x ≡ true
  all_by a xs true passes rest is x c = elim (first_or_later a xs x c) [ inl same ↦ ap p (sym same) ∙ passes | inr h ↦ rest x h is ]
  all_by a xs false passes rest is x c = absurd (cc)

  pub from_all : (xs : List X) (x : X) → Contains xs x → list_all p xs ≡ true → p x ≡ true
  from_all [] x c is = absurd (nowhere x c)
  from_all (a ∷ xs) x c is = all_by a xs (p a) refl (from_all xs) is x c

  pub into_all : (xs : List X) → ((x : X) → Contains xs x → p x ≡ true) → list_all p xs ≡ true
  into_all [] each = refl
  into_all (a ∷ xs) each = rw (each a (first a xs)) (into_all xs (λ x c. each x (later a xs x c)))
