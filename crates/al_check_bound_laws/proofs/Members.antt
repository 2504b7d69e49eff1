-- Units in lists.
use Rattle.std.proofs.Common.{◌≡◌, refl, sym, subst, ◌∙◌, ap, true≢false, ℕ, Bool, true, false, ◌||◌, List, [], ◌∷◌, ◌++◌, inl, inr}
use Rattle.std.specs.List.{flat_map, list_all, list_any}
use Rattle.std.specs.Str.{bytes_eq}
use Rattle.std.proofs.lemmas.Slice.Eq.{bytes_eq-Decides}
use Rattle.std.specs.Prelude.{◌⊎◌}
use Rattle.al_base.specs.declared.unit_key.UnitKey.{UnitKey}
use Rattle.al_query.specs.Known.{has_unit}
use Rattle.al_query.proofs.KnownLemmas.{has_unit-cases, has_unit-first, has_unit-left, has_unit-right}
use Rattle.al_view.specs.Symbols.{same_unit}
use Rattle.al_view.proofs.SymbolLemmas.{both, same_unit-one}
use Rattle.al_check_bound_laws.proofs.AllLemmas.{All}

abbrev pub Among : List UnitKey → UnitKey → Type 0
Among us u = has_unit us u ≡ true

-- what holds of all members holds of each
pub has-all : (F : UnitKey → Bool) (us : List UnitKey) (u : UnitKey) → list_all F us ≡ true → Among us u → F u ≡ true
has-all F [] u a h = absurd (cc)
has-all F (x ∷ xs) u a h = at (same_unit u x) refl h (has-all F xs u (both (F x) (list_all F xs) a).1)
  where
    at : (b : Bool) → same_unit u x ≡ b → (b || has_unit xs u) ≡ true → (Among xs u → F u ≡ true) → F u ≡ true
    at true e k more = ap F (same_unit-one u x e) ∙ (both (F x) (list_all F xs) a).0
    at false e k more = more k

-- members of a list that another one has are its members
pub all-among : (us vs : List UnitKey) → ((u : UnitKey) → Among us u → Among vs u) → All (Among vs) us
all-among [] vs sub = tt
all-among (x ∷ xs) vs sub = (sub x (has_unit-first x xs), all-among xs vs (λ u h. sub u (has_unit-right (x ∷ []) xs u h)))

pub has-flat : (f : UnitKey → List UnitKey) (us : List UnitKey) (u v : UnitKey) → Among us u → Among (f u) v → Among (flat_map f us) v
has-flat f [] u v h k = absurd (cc)
has-flat f (x ∷ xs) u v h k = at (same_unit u x) refl h (λ m. has-flat f xs u v m k)
  where
    at : (b : Bool) → same_unit u x ≡ b → (b || has_unit xs u) ≡ true → (Among xs u → Among (flat_map f xs) v) → Among (f x ++ flat_map f xs) v
    at true e m more = has_unit-left (f x) (flat_map f xs) v (subst (λ (y : UnitKey). Among (f y) v) (same_unit-one u x e) k)
    at false e m more = has_unit-right (f x) (flat_map f xs) v (more m)

pub flat-has : {X : Type 0} (f : X → List UnitKey) (F : X → Type 0) (v : UnitKey) (C : Type 0) (xs : List X) → All F xs → ((x : X) → F x → Among (f x) v → C) → Among (flat_map f xs) v → C
flat-has f F v C [] a g h = absurd (cc)
flat-has f F v C (x ∷ xs) a g h = at (has_unit-cases (f x) (flat_map f xs) v h) (flat-has f F v C xs a.1 g)
  where
    at : (Among (f x) v ⊎ Among (flat_map f xs) v) → (Among (flat_map f xs) v → C) → C
    at (inl k) more = g x a.0 k
    at (inr k) more = more k

-- ---- names in lists

pub any-left : (n : List ℕ) (xs ys : List (List ℕ)) → list_any (bytes_eq n) xs ≡ true → list_any (bytes_eq n) (xs ++ ys) ≡ true
any-left n [] ys h = absurd (true≢false (sym h))
any-left n (x ∷ xs) ys h = at (bytes_eq n x) h (any-left n xs ys)
  where
    at : (b : Bool) → (b || list_any (bytes_eq n) xs) ≡ true → (list_any (bytes_eq n) xs ≡ true → list_any (bytes_eq n) (xs ++ ys) ≡ true) → (b || list_any (bytes_eq n) (xs ++ ys)) ≡ true
    at true k more = refl
    at false k more = more k

pub any-right : (n : List ℕ) (xs ys : List (List ℕ)) → list_any (bytes_eq n) ys ≡ true → list_any (bytes_eq n) (xs ++ ys) ≡ true
any-right n [] ys h = h
any-right n (x ∷ xs) ys h = at (bytes_eq n x) (any-right n xs ys h)
  where
    at : (b : Bool) → list_any (bytes_eq n) (xs ++ ys) ≡ true → (b || list_any (bytes_eq n) (xs ++ ys)) ≡ true
    at true k = refl
    at false k = k

pub any-first : (n : List ℕ) (ns : List (List ℕ)) → list_any (bytes_eq n) (n ∷ ns) ≡ true
any-first n ns = ap (λ b. b || list_any (bytes_eq n) ns) ((bytes_eq-Decides n n).1 refl)

pub any-flat : (n : List ℕ) (f : UnitKey → List (List ℕ)) (us : List UnitKey) (u : UnitKey) → Among us u → list_any (bytes_eq n) (f u) ≡ true → list_any (bytes_eq n) (flat_map f us) ≡ true
any-flat n f [] u h k = absurd (true≢false (sym h))
any-flat n f (x ∷ xs) u h k = at (same_unit u x) refl h (λ m. any-flat n f xs u m k)
  where
    at : (b : Bool) → same_unit u x ≡ b → (b || has_unit xs u) ≡ true → (Among xs u → list_any (bytes_eq n) (flat_map f xs) ≡ true) → list_any (bytes_eq n) (f x ++ flat_map f xs) ≡ true
    at true e m more = any-left n (f x) (flat_map f xs) (subst (λ (y : UnitKey). list_any (bytes_eq n) (f y) ≡ true) (same_unit-one u x e) k)
    at false e m more = any-right n (f x) (flat_map f xs) (more m)

pub all-names : (F : List ℕ → Type 0) (ns : List (List ℕ)) → ((n : List ℕ) → list_any (bytes_eq n) ns ≡ true → F n) → All F ns
all-names F [] f = tt
all-names F (n ∷ ns) f = (f n (any-first n ns), all-names F ns (λ m h. f m (any-right m (n ∷ []) ns h)))
