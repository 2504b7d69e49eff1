-- A region that has what may not be overloaded leaves nothing to use clauses.
use Rattle.std.proofs.Common.{◌≡◌, List, [], ◌∷◌, Bool, true, false, cond, not, ◌&&◌, ◌||◌, Option, Some, None, is_some, filter, refl, ◌∙◌, ap}
use Rattle.std.specs.List.{list_any, list_all}
use Rattle.al_view.specs.declared.view.ViewKind.{ViewKind}
use Rattle.al_view.specs.Homographs.{Signature, homographs, may_be_overloaded, same_signature, signature_of}
use Rattle.al_scope.specs.declared.hiding.RegionEntry.{RegionEntry}
use Rattle.al_scope.specs.Visible.{clash, decides, shuts_out, use_visible}
use Rattle.al_scope.proofs.DistinctLemmas.{or-right}
use Rattle.al_scope.proofs.VisibleLemmas.{not-false}

none-right : (a : Option Signature) → same_signature a None ≡ true
none-right (Some s) = refl
none-right None = refl

-- each declaration is a homograph of what may not be overloaded
some-homograph : (v : ViewKind) (ws : List ViewKind) → list_all may_be_overloaded ws ≡ false → list_any (homographs v) ws ≡ true
some-homograph v [] h = absurd (cc)
some-homograph v (w ∷ ws) h = at (signature_of w) h (some-homograph v ws)
  where
    at : (s : Option Signature) → (is_some s && list_all may_be_overloaded ws) ≡ false → (list_all may_be_overloaded ws ≡ false → list_any (homographs v) ws ≡ true) → (same_signature (signature_of v) s || list_any (homographs v) ws) ≡ true
    at None k more = ap (λ b. b || list_any (homographs v) ws) (none-right (signature_of v))
    at (Some s) k more = or-right (same_signature (signature_of v) (Some s)) (list_any (homographs v) ws) (more k)

decided : (v : ViewKind) (f : RegionEntry) → decides f ≡ true → shuts_out v f ≡ true
decided v f h = at f.begun h
  where
    at : (b : Bool) → (b || not (list_all may_be_overloaded f.views)) ≡ true → (b || list_any (homographs v) f.views) ≡ true
    at true k = refl
    at false k = some-homograph v f.views (not-false (list_all may_be_overloaded f.views) k)

pub any-decided : (v : ViewKind) (fs : List RegionEntry) → list_any decides fs ≡ true → list_any (shuts_out v) fs ≡ true
any-decided v [] h = absurd (cc)
any-decided v (f ∷ fs) h = at (decides f) refl h (any-decided v fs)
  where
    at : (b : Bool) → decides f ≡ b → (b || list_any decides fs) ≡ true → (list_any decides fs ≡ true → list_any (shuts_out v) fs ≡ true) → (shuts_out v f || list_any (shuts_out v) fs) ≡ true
    at true i k more = ap (λ b. b || list_any (shuts_out v) fs) (decided v f i)
    at false i k more = or-right (shuts_out v f) (list_any (shuts_out v) fs) (more k)

pub filter-none : (p : ViewKind → Bool) → ((v : ViewKind) → p v ≡ true) → (xs : List ViewKind) → filter (λ x. not (p x)) xs ≡ []
filter-none p h [] = refl
filter-none p h (x ∷ xs) = ap (λ b. cond (not b) (x ∷ filter (λ y. not (p y)) xs) (filter (λ y. not (p y)) xs)) (h x) ∙ filter-none p h xs

pub use_visible-none : (fs : List RegionEntry) (vs : List ViewKind) → list_any decides fs ≡ true → use_visible fs vs ≡ []
use_visible-none fs vs h = at (clash vs)
  where
    at : (b : Bool) → cond b [] (filter (λ v. not (list_any (shuts_out v) fs)) vs) ≡ []
    at true = refl
    at false = filter-none (λ v. list_any (shuts_out v) fs) (λ v. any-decided v fs h) vs
