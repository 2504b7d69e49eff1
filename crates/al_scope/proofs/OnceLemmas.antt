-- What use clauses open is there once, if nothing clashes.
use Rattle.std.proofs.Common.{◌≡◌, ℕ, List, [], ◌∷◌, ◌++◌, Bool, true, false, cond, not, ◌&&◌, inl, inr, length, filter, refl, sym, ◌∙◌, ap, subst, arith, rules, tests}
use Rattle.std.proofs.lemmas.Bool.Decides.{nat_tests}
use Rattle.std.proofs.lemmas.Map.Keys.{sorted_head, sorted_tail}
use Rattle.std.specs.Cmp.{tied_itself}
use Rattle.std.specs.Cmp.Lexicographic.{nat_list_cmp_total}
use Rattle.std.specs.declared.cmp.Ordering.TheVariants.{Less, Equal}
use Rattle.std.specs.List.{AllByRecursion, list_all, list_any}
use Rattle.std.specs.Map.{keys_of}
use Rattle.std.specs.Prelude.{nat_lt}
use Rattle.al_base.specs.Files.{name_cmp}
use Rattle.al_view.specs.declared.view.ViewKind.{ViewKind}
use Rattle.al_view.specs.Homographs.{may_be_overloaded}
use Rattle.al_view.specs.Named.{Declarations}
use Rattle.al_view.proofs.SymbolLemmas.{and_both, both}
use Rattle.al_query.specs.declared.query.Query.{Query}
use Rattle.al_query.specs.declared.answer.AnswerKind.{AnswerKind}
use Rattle.al_scope.specs.declared.hiding.RegionEntry.{RegionEntry}
use Rattle.al_scope.specs.declared.uses.PackageUse.{PackageUse}
use Rattle.al_scope.specs.UseClauses.{EachOnce, Uses, opens}
use Rattle.al_scope.specs.Visible.{clash, offered_by, opened_by, potential, shuts_out, use_visible}
use Rattle.al_scope.specs.VisibleSet.{AreApart, DeclareOnce, Has, Once}
use Rattle.al_scope.proofs.DistinctLemmas.{once-filter, once-join}
use Rattle.al_scope.proofs.VisibleLemmas.{filter-has, has-flat}

all-has : (p : ViewKind → Bool) (xs : List ViewKind) (v : ViewKind) → list_all p xs ≡ true → Has xs v → p v ≡ true
all-has p [] v h k = absurd k
all-has p (x ∷ xs) v h (inl e) = subst (λ (y : ViewKind). p y ≡ true) e (both (p x) (list_all p xs) h).0
all-has p (x ∷ xs) v h (inr k) = all-has p xs v (both (p x) (list_all p xs) h).1 k

all-split : (p : ViewKind → Bool) (xs ys : List ViewKind) → list_all p (xs ++ ys) ≡ true → (list_all p xs ≡ true) × (list_all p ys ≡ true)
all-split p [] ys h = (refl, h)
all-split p (x ∷ xs) ys h =
    let first = both (p x) (list_all p (xs ++ ys)) h in
    let rest = all-split p xs ys first.1 in
    (and_both (p x) (list_all p xs) first.0 rest.0, rest.1)

-- a package that is further on has another name
another-name : (n : List ℕ) (us : Uses) (w : List ℕ × PackageUse) → AllByRecursion (λ k. name_cmp n k ≡ Less) (keys_of us) → Has us w → n ≡ w.0 → ⊥
another-name n [] w h k e = k
another-name n (u ∷ us) w h (inl i) e =
    let same : n ≡ u.0 = e ∙ sym (ap (λ (x : List ℕ × PackageUse). x.0) i) in
    let less : name_cmp n n ≡ Less = subst (λ (k : List ℕ). name_cmp n k ≡ Less) (sym same) h.0 in
    let equal : name_cmp n n ≡ Equal = tied_itself nat_list_cmp_total n in
    let bad : Less ≡ Equal = sym less ∙ equal in
    absurd (cc)
another-name n (u ∷ us) w h (inr k) e = another-name n us w h.1 k e

once-opened : (t : Query → AnswerKind) (m : Declarations) (name : List ℕ) (us : Uses) → EachOnce us → DeclareOnce t m name us → AreApart t m name us → list_all may_be_overloaded (potential t m name us) ≡ true → Once (potential t m name us)
once-opened t m name [] each one apart all = tt
once-opened t m name (u ∷ us) each one apart all =
    let here = opened_by t m name u in
    let parts = all-split may_be_overloaded here (potential t m name us) all in
    once-join here (potential t m name us)
    (once-filter (opens u.1) (offered_by t m name u) one.0)
    (once-opened t m name us (sorted_tail name_cmp u.0 (keys_of us) each) one.1 (λ a b v i j. apart a b v (inr i) (inr j)) parts.1)
    (λ v i j. let from = has-flat (opened_by t m name) us v j in
    let first = filter-has (opens u.1) (offered_by t m name u) v i in
    let second = filter-has (opens from.0.1) (offered_by t m name from.0) v from.2 in
    another-name u.0 us from.0 (sorted_head name_cmp u.0 (keys_of us) each) from.1 (apart u from.0 v (inl refl) (inr from.1) (all-has may_be_overloaded here v parts.0 i) first.0 second.0))

-- one alone is there once; several that don't clash may all be overloaded
once-several : (vs : List ViewKind) → clash vs ≡ false → (list_all may_be_overloaded vs ≡ true → Once vs) → Once vs
once-several [] h more = tt
once-several (v ∷ []) h more = (λ k. k, tt)
once-several (v ∷ w ∷ vs) h more =
    let several : nat_lt 1 (length (v ∷ w ∷ vs)) ≡ true = first_of (grind (arith, nat_tests), search (rules, tests)) in
    more (at (nat_lt 1 (length (v ∷ w ∷ vs))) (list_all may_be_overloaded (v ∷ w ∷ vs)) several h)
  where
    at : (a b : Bool) → a ≡ true → (a && not b) ≡ false → b ≡ true
    at true true i k = refl
    at true false i k = sym k
    at false b i k = absurd (cc)

-- each package is there once in the use clauses, so what is use-visible is too
pub once-used : (t : Query → AnswerKind) (m : Declarations) (name : List ℕ) (us : Uses) (fs : List RegionEntry) → EachOnce us → DeclareOnce t m name us → AreApart t m name us → Once (use_visible fs (potential t m name us))
once-used t m name us fs each one apart = at (clash (potential t m name us)) refl
  where
    at : (b : Bool) → clash (potential t m name us) ≡ b → Once (cond b [] (filter (λ v. not (list_any (shuts_out v) fs)) (potential t m name us)))
    at true i = tt
    at false i = once-filter (λ v. not (list_any (shuts_out v) fs)) (potential t m name us) (once-several (potential t m name us) i (once-opened t m name us each one apart))
