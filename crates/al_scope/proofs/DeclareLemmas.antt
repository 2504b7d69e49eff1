-- A declaration that fits is there once in its region.
use Rattle.std.proofs.Common.{◌≡◌, ℕ, List, [], ◌∷◌, ◌++◌, Bool, true, false, cond, map, Option, Some, None, refl, sym, ◌∙◌, ap, subst}
use Rattle.std.specs.List.{flat_map, list_any}
use Rattle.std.specs.Map.{lookup}
use Rattle.std.specs.Prelude.{unwrap_or}
use Rattle.std.specs.Str.{bytes_eq}
use Rattle.std.proofs.lemmas.Slice.Eq.{bytes_eq-Decides}
use Rattle.al_view.specs.declared.view.ViewKind.{ViewKind}
use Rattle.al_view.specs.Homographs.{homographs}
use Rattle.al_view.specs.Interfaces.{views_of, with_view}
use Rattle.al_view.specs.Named.{Declarations}
use Rattle.al_query.specs.declared.query.Query.{Query}
use Rattle.al_query.specs.declared.answer.AnswerKind.{AnswerKind}
use Rattle.al_scope.specs.declared.region.Region.{Region}
use Rattle.al_scope.specs.PartialViews.{without_partial}
use Rattle.al_scope.specs.Places.{Place, in_last, with_declared}
use Rattle.al_scope.specs.Visible.{declared_by, found_in, innermost}
use Rattle.al_scope.specs.VisibleSet.{AllOnce, Once, StaysOnce}
use Rattle.al_scope.proofs.PartialLemmas.{once-pushed}
use Rattle.al_scope.proofs.HidingLemmas.{append-assoc}

-- the views of the name are one more
with_view-same : (d : Declarations) (name : List ℕ) (v : ViewKind) → views_of (with_view d name v) name ≡ views_of d name ++ v ∷ []
with_view-same [] name v = ap (λ b. unwrap_or (cond b (Some (v ∷ [])) None) []) ((bytes_eq-Decides name name).1 refl)
with_view-same (e ∷ es) name v = at (bytes_eq name e.0) refl (with_view-same es name v)
  where
    at : (b : Bool) → bytes_eq name e.0 ≡ b → views_of (with_view es name v) name ≡ views_of es name ++ v ∷ [] → views_of (cond b ((e.0, e.1 ++ v ∷ []) ∷ es) (e ∷ with_view es name v)) name ≡ unwrap_or (cond b (Some e.1) (lookup (bytes_eq name) es)) [] ++ v ∷ []
    at true i more = ap (λ b. unwrap_or (cond b (Some (e.1 ++ v ∷ [])) (lookup (bytes_eq name) es)) []) i
    at false i more = ap (λ b. unwrap_or (cond b (Some e.1) (lookup (bytes_eq name) (with_view es name v))) []) i ∙ more

same-front : (b : Bool) (innermost : List ViewKind) (one two : Option (List ViewKind)) → unwrap_or one [] ≡ unwrap_or two [] → unwrap_or (cond b (Some innermost) one) [] ≡ unwrap_or (cond b (Some innermost) two) []
same-front true innermost one two h = refl
same-front false innermost one two h = h

-- those of another name stay
with_view-other : (d : Declarations) (name other : List ℕ) (v : ViewKind) → bytes_eq other name ≡ false → views_of (with_view d name v) other ≡ views_of d other
with_view-other [] name other v h = ap (λ b. unwrap_or (cond b (Some (v ∷ [])) None) []) h
with_view-other (e ∷ es) name other v h = at (bytes_eq name e.0) refl (with_view-other es name other v h)
  where
    at : (b : Bool) → bytes_eq name e.0 ≡ b → views_of (with_view es name v) other ≡ views_of es other → views_of (cond b ((e.0, e.1 ++ v ∷ []) ∷ es) (e ∷ with_view es name v)) other ≡ views_of (e ∷ es) other
    at true i more =
        let same : name ≡ e.0 = (bytes_eq-Decides name e.0).0 i in
        let apart : bytes_eq other e.0 ≡ false = subst (λ (k : List ℕ). bytes_eq other k ≡ false) same h in
        ap (λ b. unwrap_or (cond b (Some (e.1 ++ v ∷ [])) (lookup (bytes_eq other) es)) []) apart
        ∙ sym (ap (λ b. unwrap_or (cond b (Some e.1) (lookup (bytes_eq other) es)) []) apart)
    at false i more = same-front (bytes_eq other e.0) e.1 (lookup (bytes_eq other) (with_view es name v)) (lookup (bytes_eq other) es) more

once-named : (t : Query → AnswerKind) (m : Declarations) (name : List ℕ) (v : ViewKind) (r : Region) → list_any (homographs v) (found_in t m name r).views ≡ false → Once (found_in t m name r).views → Once (found_in t m name (with_declared name v r)).views
once-named t m name v r h one =
    let parts = flat_map (declared_by t m name) r.parts in
    let same : (parts ++ views_of r.declared name) ++ v ∷ [] ≡ parts ++ views_of (with_view r.declared name v) name = append-assoc parts (views_of r.declared name) (v ∷ []) ∙ ap (λ l. parts ++ l) (sym (with_view-same r.declared name v)) in
    subst (λ (l : List ViewKind). Once (without_partial l)) same (once-pushed (parts ++ views_of r.declared name) v h one)

once-region : (t : Query → AnswerKind) (m : Declarations) (name other : List ℕ) (v : ViewKind) (r : Region) → list_any (homographs v) (found_in t m name r).views ≡ false → Once (found_in t m other r).views → Once (found_in t m other (with_declared name v r)).views
once-region t m name other v r h one = at (bytes_eq other name) refl
  where
    at : (b : Bool) → bytes_eq other name ≡ b → Once (found_in t m other (with_declared name v r)).views
    at true i =
        let e : other ≡ name = (bytes_eq-Decides other name).0 i in
        let before : Once (found_in t m name r).views = subst (λ (n : List ℕ). Once (found_in t m n r).views) e one in
        subst (λ (n : List ℕ). Once (found_in t m n (with_declared name v r)).views) (sym e) (once-named t m name v r h before)
    at false i = subst (λ (l : List ViewKind). Once (without_partial (flat_map (declared_by t m other) r.parts ++ l))) (sym (with_view-other r.declared name other v i)) one

once-declared : (t : Query → AnswerKind) (m : Declarations) (name other : List ℕ) (v : ViewKind) (rs : List Region) → list_any (homographs v) (innermost t m name rs) ≡ false → AllOnce (map (found_in t m other) rs) → AllOnce (map (found_in t m other) (in_last (with_declared name v) rs))
once-declared t m name other v [] h one = tt
once-declared t m name other v (r ∷ []) h one = (once-region t m name other v r h one.0, tt)
once-declared t m name other v (r ∷ q ∷ inner) h one = (one.0, once-declared t m name other v (q ∷ inner) h one.1)

pub stays-declared : (t : Query → AnswerKind) (name : List ℕ) (v : ViewKind) (old : Place) (m : Declarations) (rs : List Region) → list_any (homographs v) (innermost t old.mentioned name old.regions) ≡ false → rs ≡ in_last (with_declared name v) old.regions → m ≡ old.mentioned → StaysOnce t old (record { mentioned = m; regions = rs })
stays-declared t name v old m rs h regions mentioned other one = rw (regions, mentioned) (once-declared t old.mentioned name other v old.regions h one)
