-- Partial views that give way to full ones: a declaration more keeps what is there once.
use Rattle.std.proofs.Common.{◌≡◌, ℕ, zero, suc, ◌+◌, List, [], ◌∷◌, ◌++◌, Bool, true, false, cond, not, ◌||◌, inl, inr, drop, filter, slice_get, Option, Some, None, refl, sym, ◌∙◌, ap, subst, add-one}
use Rattle.std.specs.List.{list_any}
use Rattle.std.specs.Option.{option_map_or}
use Rattle.std.proofs.lemmas.List.Folds.{list_any-append}
use Rattle.al_view.specs.Homographs.{homographs}
use Rattle.al_view.specs.declared.symbol.Symbol.{Symbol}
use Rattle.al_view.specs.declared.view.ViewKind.{ViewKind}
use Rattle.al_scope.specs.PartialViews.{gives_way, is_full_view, partial_type, without_partial}
use Rattle.al_scope.specs.VisibleSet.{Has, Once}
use Rattle.al_scope.proofs.DistinctLemmas.{any-self, once-filter, once-join}
use Rattle.al_scope.proofs.VisibleLemmas.{has-kept, has-left}

-- with more views there no fewer give way
way-more : (xs more : List ViewKind) (v : ViewKind) → gives_way xs v ≡ true → gives_way (xs ++ more) v ≡ true
way-more xs more v h = at (partial_type v) h
  where
    at : (s : Option Symbol) → option_map_or (λ (s : Symbol). list_any (is_full_view s) xs) s false ≡ true → option_map_or (λ (s : Symbol). list_any (is_full_view s) (xs ++ more)) s false ≡ true
    at None k = k
    at (Some s) k = list_any-append (is_full_view s) xs more ∙ ap (λ b. b || list_any (is_full_view s) more) k

-- so who doesn't give way then doesn't without them
stays-more : (xs more : List ViewKind) (v : ViewKind) → gives_way (xs ++ more) v ≡ false → gives_way xs v ≡ false
stays-more xs more v h = at (gives_way xs v) refl
  where
    at : (b : Bool) → gives_way xs v ≡ b → b ≡ false
    at false i = refl
    at true i = let bad : true ≡ false = sym (way-more xs more v i) ∙ h in absurd (cc)

filter-join : (p : ViewKind → Bool) (xs ys : List ViewKind) → filter p (xs ++ ys) ≡ filter p xs ++ filter p ys
filter-join p [] ys = refl
filter-join p (x ∷ xs) ys = at (p x) (filter-join p xs ys)
  where
    at : (b : Bool) → filter p (xs ++ ys) ≡ filter p xs ++ filter p ys → cond b (x ∷ filter p (xs ++ ys)) (filter p (xs ++ ys)) ≡ cond b (x ∷ filter p xs) (filter p xs) ++ filter p ys
    at true more = ap (λ l. x ∷ l) more
    at false more = more

-- if none gives way all stay
pub all-stay : (p : ViewKind → Bool) (xs : List ViewKind) → list_any p xs ≡ false → filter (λ v. not (p v)) xs ≡ xs
all-stay p [] h = refl
all-stay p (x ∷ xs) h = at (p x) h (all-stay p xs)
  where
    at : (b : Bool) → (b || list_any p xs) ≡ false → (list_any p xs ≡ false → filter (λ v. not (p v)) xs ≡ xs) → cond (not b) (x ∷ filter (λ v. not (p v)) xs) (filter (λ v. not (p v)) xs) ≡ x ∷ xs
    at true k more = absurd (cc)
    at false k more = ap (λ l. x ∷ l) (more k)

-- of a list that is filtered by less
once-less : (p q : ViewKind → Bool) (xs : List ViewKind) → ((v : ViewKind) → q v ≡ false → p v ≡ false) → Once (filter (λ v. not (p v)) xs) → Once (filter (λ v. not (q v)) xs)
once-less p q [] less one = tt
once-less p q (x ∷ xs) less one = at (q x) refl (p x) refl one (once-less p q xs less)
  where
    at : (b : Bool) → q x ≡ b → (a : Bool) → p x ≡ a → Once (cond (not a) (x ∷ filter (λ v. not (p v)) xs) (filter (λ v. not (p v)) xs)) → (Once (filter (λ v. not (p v)) xs) → Once (filter (λ v. not (q v)) xs)) → Once (cond (not b) (x ∷ filter (λ v. not (q v)) xs) (filter (λ v. not (q v)) xs))
    at true i true j some rest = rest some
    at true i false j some rest = rest some.1
    at false i true j some rest = let bad : true ≡ false = sym j ∙ less x i in absurd (cc)
    at false i false j some rest = (
      λ k. let both = has-left q xs x k in some.0 (has-kept p xs x both.0 (less x both.1)),
      rest some.1,
    )

-- a declaration that is no homograph of what is left
pub once-pushed : (xs : List ViewKind) (v : ViewKind) → list_any (homographs v) (without_partial xs) ≡ false → Once (without_partial xs) → Once (without_partial (xs ++ v ∷ []))
once-pushed xs v h one =
    let way = gives_way (xs ++ v ∷ []) in
    let kept = λ (w : ViewKind). not (way w) in
    let first : Once (filter kept xs) = once-less (gives_way xs) way xs (stays-more xs (v ∷ [])) one in
    let last : Once (filter kept (v ∷ [])) = once-filter kept (v ∷ []) (λ k. k, tt) in
    subst (λ (l : List ViewKind). Once l) (sym (filter-join kept xs (v ∷ []))) (once-join (filter kept xs) (filter kept (v ∷ [])) first last apart)
  where
    apart : (w : ViewKind) → Has (filter (λ w. not (gives_way (xs ++ v ∷ []) w)) xs) w → Has (filter (λ w. not (gives_way (xs ++ v ∷ []) w)) (v ∷ [])) w → ⊥
    apart w i j = alone (has-left (gives_way (xs ++ v ∷ [])) (v ∷ []) w j).0
      where
        alone : Has (v ∷ []) w → ⊥
        alone (inr k) = k
        alone (inl e) =
            let both = has-left (gives_way (xs ++ v ∷ [])) xs w i in
            let there : Has (without_partial xs) w = has-kept (gives_way xs) xs w both.0 (stays-more xs (v ∷ []) w both.1) in
            let found : list_any (homographs v) (without_partial xs) ≡ true = any-self (without_partial xs) v (subst (λ (x : ViewKind). Has (without_partial xs) x) (sym e) there) in
            let bad : true ≡ false = sym found ∙ h in
            absurd (cc)

-- one that holds is among those that are left, and one that doesn't is passed
pub any-here : {X : Type 0} (f : X → Bool) (xs : List X) (i : ℕ) → option_map_or f (slice_get xs i) false ≡ true → list_any f (drop i xs) ≡ true
any-here f [] i h = absurd (cc)
any-here f (x ∷ xs) zero h = ap (λ b. b || list_any f xs) h
any-here f (x ∷ xs) (suc i) h = any-here f xs i h

drop-none : {X : Type 0} (i : ℕ) → drop {A = X} i [] ≡ []
drop-none zero = refl
drop-none (suc i) = refl

past : {X : Type 0} (f : X → Bool) (xs : List X) (i : ℕ) → option_map_or f (slice_get xs i) false ≡ false → list_any f (drop (suc i) xs) ≡ list_any f (drop i xs)
past f [] i h = ap (list_any f) (sym (drop-none i))
past f (x ∷ xs) zero h = sym (ap (λ b. b || list_any f xs) h)
past f (x ∷ xs) (suc i) h = past f xs i h

pub any-past : {X : Type 0} (f : X → Bool) (xs : List X) (i : ℕ) → option_map_or f (slice_get xs i) false ≡ false → list_any f (drop (i + 1) xs) ≡ list_any f (drop i xs)
any-past f xs i h = ap (λ (n : ℕ). list_any f (drop n xs)) (add-one i) ∙ past f xs i h
