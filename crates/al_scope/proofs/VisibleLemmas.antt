-- The list of what is visible has what is visible, and nothing else.
use Rattle.std.proofs.Common.{◌≡◌, ℕ, List, [], ◌∷◌, ◌++◌, Bool, true, false, cond, not, ◌||◌, ◌↔◌, ◌⊎◌, inl, inr, map, filter, refl, sym, ◌∙◌, ap, subst}
use Rattle.std.specs.List.{list_any, flat_map}
use Rattle.al_query.specs.declared.query.Query.{Query}
use Rattle.al_view.specs.declared.symbol.Symbol.{Symbol}
use Rattle.al_view.specs.declared.view.ViewKind.{ViewKind}
use Rattle.al_view.specs.Named.{Declarations}
use Rattle.al_view.specs.Operators.{is_operator_of}
use Rattle.al_query.specs.declared.answer.AnswerKind.{AnswerKind}
use Rattle.al_scope.specs.declared.region.Region.{Region}
use Rattle.al_scope.specs.declared.uses.PackageUse.{PackageUse}
use Rattle.al_scope.specs.declared.hiding.RegionEntry.{RegionEntry}
use Rattle.al_scope.specs.Places.{Place, uses_at}
use Rattle.al_scope.specs.UseClauses.{opens}
use Rattle.al_scope.specs.Visible.{found_in, shuts_out, direct, clash, use_visible, offered_by, opened_by, potential, visible_at}
use Rattle.al_scope.specs.VisibleSet.{Has, IsDirect, IsOpen, IsUseVisible, IsVisible}

-- members

pub has-join : {X : Type 0} (xs ys : List X) (v : X) → Has xs v ⊎ Has ys v → Has (xs ++ ys) v
has-join [] ys v (inl h) = absurd h
has-join [] ys v (inr h) = h
has-join (x ∷ xs) ys v (inl (inl e)) = inl e
has-join (x ∷ xs) ys v (inl (inr h)) = inr (has-join xs ys v (inl h))
has-join (x ∷ xs) ys v (inr h) = inr (has-join xs ys v (inr h))

pub has-split : {X : Type 0} (xs ys : List X) (v : X) → Has (xs ++ ys) v → Has xs v ⊎ Has ys v
has-split [] ys v h = inr h
has-split (x ∷ xs) ys v (inl e) = inl (inl e)
has-split (x ∷ xs) ys v (inr h) = elim (has-split xs ys v h) [ inl k ↦ inl (inr k) | inr k ↦ inr k ]

pub not-false : (b : Bool) → not b ≡ true → b ≡ false
not-false true h = absurd (cc)
not-false false h = refl

pub has-kept : (p : ViewKind → Bool) (xs : List ViewKind) (v : ViewKind) → Has xs v → p v ≡ false → Has (filter (λ x. not (p x)) xs) v
has-kept p [] v h k = h
has-kept p (x ∷ xs) v h k = at (p x) refl h (λ m. has-kept p xs v m k)
  where
    at : (b : Bool) → p x ≡ b → Has (x ∷ xs) v → (Has xs v → Has (filter (λ y. not (p y)) xs) v) → Has (cond (not b) (x ∷ filter (λ y. not (p y)) xs) (filter (λ y. not (p y)) xs)) v
    at true i (inl e) more = let bad : true ≡ false = sym i ∙ ap p e ∙ k in absurd (cc)
    at true i (inr m) more = more m
    at false i (inl e) more = inl e
    at false i (inr m) more = inr (more m)

pub has-left : (p : ViewKind → Bool) (xs : List ViewKind) (v : ViewKind) → Has (filter (λ x. not (p x)) xs) v → Has xs v × (p v ≡ false)
has-left p [] v h = absurd h
has-left p (x ∷ xs) v h = at (p x) refl h (has-left p xs v)
  where
    at : (b : Bool) → p x ≡ b → Has (cond (not b) (x ∷ filter (λ y. not (p y)) xs) (filter (λ y. not (p y)) xs)) v → (Has (filter (λ y. not (p y)) xs) v → Has xs v × (p v ≡ false)) → Has (x ∷ xs) v × (p v ≡ false)
    at true i m more = let both = more m in (inr both.0, both.1)
    at false i (inl e) more = (inl e, sym (ap p e) ∙ i)
    at false i (inr m) more = let both = more m in (inr both.0, both.1)

any-map : {X : Type 0} (p : RegionEntry → Bool) (f : X → RegionEntry) (xs : List X) → list_any p (map f xs) ≡ list_any (λ x. p (f x)) xs
any-map p f [] = refl
any-map p f (x ∷ xs) = ap (λ b. p (f x) || b) (any-map p f xs)

-- directly visible

pub direct-has : (t : Query → AnswerKind) (m : Declarations) (name : List ℕ) (place : List Region) (v : ViewKind) → IsDirect t m name place v → Has (direct (map (found_in t m name) place)) v
direct-has t m name [] v h = h
direct-has t m name (r ∷ inner) v (inl h) =
    let kept = has-kept (λ x. list_any (shuts_out x) (map (found_in t m name) inner)) (found_in t m name r).views v h.0 (any-map (shuts_out v) (found_in t m name) inner ∙ h.1) in
    has-join (direct (map (found_in t m name) inner)) _ v (inr kept)
direct-has t m name (r ∷ inner) v (inr h) = has-join (direct (map (found_in t m name) inner)) _ v (inl (direct-has t m name inner v h))

pub has-direct : (t : Query → AnswerKind) (m : Declarations) (name : List ℕ) (place : List Region) (v : ViewKind) → Has (direct (map (found_in t m name) place)) v → IsDirect t m name place v
has-direct t m name [] v h = h
has-direct t m name (r ∷ inner) v h =
    elim (has-split (direct (map (found_in t m name) inner)) (filter (λ x. not (list_any (shuts_out x) (map (found_in t m name) inner))) (found_in t m name r).views) v h) [
      | inl k ↦ inr (has-direct t m name inner v k)
      | inr k ↦ let both = has-left (λ x. list_any (shuts_out x) (map (found_in t m name) inner)) (found_in t m name r).views v k in
          inl (both.0, sym (any-map (shuts_out v) (found_in t m name) inner) ∙ both.1)
    ]

-- what use clauses open

any-has : (p : Symbol → Bool) (xs : List Symbol) → list_any p xs ≡ true → (s : Symbol) × Has xs s × (p s ≡ true)
any-has p [] h = absurd (cc)
any-has p (x ∷ xs) h = at (p x) refl h (any-has p xs)
  where
    at : (b : Bool) → p x ≡ b → (b || list_any p xs) ≡ true → (list_any p xs ≡ true → (s : Symbol) × Has xs s × (p s ≡ true)) → (s : Symbol) × Has (x ∷ xs) s × (p s ≡ true)
    at true i h more = (x, inl refl, i)
    at false i h more = let found = more h in (found.0, inr found.1, found.2)

has-any : (p : Symbol → Bool) (xs : List Symbol) (s : Symbol) → Has xs s → p s ≡ true → list_any p xs ≡ true
has-any p [] s h k = absurd h
has-any p (x ∷ xs) s (inl e) k = ap (λ b. b || list_any p xs) (ap p e ∙ k)
has-any p (x ∷ xs) s (inr h) k = at (p x) (has-any p xs s h k)
  where
    at : (b : Bool) → list_any p xs ≡ true → (b || list_any p xs) ≡ true
    at true more = refl
    at false more = more

open-is : (u : PackageUse) (v : ViewKind) → opens u v ≡ true → IsOpen u v
open-is u v h = at u.is_named refl h
  where
    at : (b : Bool) → u.is_named ≡ b → (b || list_any (is_operator_of v) u.types) ≡ true → IsOpen u v
    at true i h = inl i
    at false i h = inr (any-has (is_operator_of v) u.types h)

is-open : (u : PackageUse) (v : ViewKind) → IsOpen u v → opens u v ≡ true
is-open u v (inl i) = ap (λ b. b || list_any (is_operator_of v) u.types) i
is-open u v (inr h) = at u.is_named (has-any (is_operator_of v) u.types h.0 h.1 h.2)
  where
    at : (b : Bool) → list_any (is_operator_of v) u.types ≡ true → (b || list_any (is_operator_of v) u.types) ≡ true
    at true more = refl
    at false more = more

has-filter : (p : ViewKind → Bool) (xs : List ViewKind) (v : ViewKind) → Has xs v → p v ≡ true → Has (filter p xs) v
has-filter p [] v h k = h
has-filter p (x ∷ xs) v h k = at (p x) refl h (λ m. has-filter p xs v m k)
  where
    at : (b : Bool) → p x ≡ b → Has (x ∷ xs) v → (Has xs v → Has (filter p xs) v) → Has (cond b (x ∷ filter p xs) (filter p xs)) v
    at false i (inl e) more = let bad : false ≡ true = sym i ∙ ap p e ∙ k in absurd (cc)
    at false i (inr m) more = more m
    at true i (inl e) more = inl e
    at true i (inr m) more = inr (more m)

pub filter-has : (p : ViewKind → Bool) (xs : List ViewKind) (v : ViewKind) → Has (filter p xs) v → Has xs v × (p v ≡ true)
filter-has p [] v h = absurd h
filter-has p (x ∷ xs) v h = at (p x) refl h (filter-has p xs v)
  where
    at : (b : Bool) → p x ≡ b → Has (cond b (x ∷ filter p xs) (filter p xs)) v → (Has (filter p xs) v → Has xs v × (p v ≡ true)) → Has (x ∷ xs) v × (p v ≡ true)
    at false i m more = let both = more m in (inr both.0, both.1)
    at true i (inl e) more = (inl e, sym (ap p e) ∙ i)
    at true i (inr m) more = let both = more m in (inr both.0, both.1)

-- potentially use-visible

flat-has : {X : Type 0} (f : X → List ViewKind) (us : List X) (v : ViewKind) (u : X) → Has us u → Has (f u) v → Has (flat_map f us) v
flat-has f [] v u h k = absurd h
flat-has f (x ∷ us) v u (inl e) k = has-join (f x) (flat_map f us) v (inl (subst (λ y. Has (f y) v) (sym e) k))
flat-has f (x ∷ us) v u (inr h) k = has-join (f x) (flat_map f us) v (inr (flat-has f us v u h k))

pub has-flat : {X : Type 0} (f : X → List ViewKind) (us : List X) (v : ViewKind) → Has (flat_map f us) v → (u : X) × Has us u × Has (f u) v
has-flat f [] v h = absurd h
has-flat f (x ∷ us) v h =
    elim (has-split (f x) (flat_map f us) v h) [
      | inl k ↦ (x, inl refl, k)
      | inr k ↦ let more = has-flat f us v k in (more.0, inr more.1, more.2)
    ]

pub use-has : (t : Query → AnswerKind) (name : List ℕ) (place : Place) (v : ViewKind) → IsUseVisible t name place v → Has (use_visible (map (found_in t place.mentioned name) place.regions) (potential t place.mentioned name (uses_at place.regions))) v
use-has t name place v h =
    let u = h.0.0 in
    let opened = has-filter (opens u.1) (offered_by t place.mentioned name u) v h.0.2 (is-open u.1 v h.0.3) in
    let all = flat-has (opened_by t place.mentioned name) (uses_at place.regions) v u h.0.1 opened in
    let kept = has-kept (λ x. list_any (shuts_out x) (map (found_in t place.mentioned name) place.regions)) (potential t place.mentioned name (uses_at place.regions)) v all (any-map (shuts_out v) (found_in t place.mentioned name) place.regions ∙ h.1) in
    rw h.2 kept

pub has-use : (t : Query → AnswerKind) (name : List ℕ) (place : Place) (v : ViewKind) → Has (use_visible (map (found_in t place.mentioned name) place.regions) (potential t place.mentioned name (uses_at place.regions))) v → IsUseVisible t name place v
has-use t name place v h = at (clash (potential t place.mentioned name (uses_at place.regions))) refl h
  where
    at : (b : Bool) → clash (potential t place.mentioned name (uses_at place.regions)) ≡ b → Has (cond b [] (filter (λ x. not (list_any (shuts_out x) (map (found_in t place.mentioned name) place.regions))) (potential t place.mentioned name (uses_at place.regions)))) v → IsUseVisible t name place v
    at true i h = absurd h
    at false i h =
        let both = has-left (λ x. list_any (shuts_out x) (map (found_in t place.mentioned name) place.regions)) (potential t place.mentioned name (uses_at place.regions)) v h in
        let from = has-flat (opened_by t place.mentioned name) (uses_at place.regions) v both.0 in
        let opened = filter-has (opens from.0.1) (offered_by t place.mentioned name from.0) v from.2 in
        ((from.0, from.1, opened.0, open-is from.0.1 v opened.1), sym (any-map (shuts_out v) (found_in t place.mentioned name) place.regions) ∙ both.1, i)

-- both ways
pub visible-exactly : (t : Query → AnswerKind) (name : List ℕ) (place : Place) (v : ViewKind) → Has (visible_at t name place) v ↔ IsVisible t name place v
visible-exactly t name place v = (to, from)
  where
    to : Has (visible_at t name place) v → IsVisible t name place v
    to h = elim (has-split (direct (map (found_in t place.mentioned name) place.regions)) (use_visible (map (found_in t place.mentioned name) place.regions) (potential t place.mentioned name (uses_at place.regions))) v h) [
      | inl k ↦ inl (has-direct t place.mentioned name place.regions v k)
      | inr k ↦ inr (has-use t name place v k)
    ]

    from : IsVisible t name place v → Has (visible_at t name place) v
    from (inl h) = has-join (direct (map (found_in t place.mentioned name) place.regions)) (use_visible (map (found_in t place.mentioned name) place.regions) (potential t place.mentioned name (uses_at place.regions))) v (inl (direct-has t place.mentioned name place.regions v h))
    from (inr h) = has-join (direct (map (found_in t place.mentioned name) place.regions)) (use_visible (map (found_in t place.mentioned name) place.regions) (potential t place.mentioned name (uses_at place.regions))) v (inr (use-has t name place v h))

pub visible-exactly_is : (t : Query → AnswerKind) (name : List ℕ) (place : Place) (views : List ViewKind) → views ≡ visible_at t name place → (v : ViewKind) → Has views v ↔ IsVisible t name place v
visible-exactly_is t name place views e v = rw e (visible-exactly t name place v)
