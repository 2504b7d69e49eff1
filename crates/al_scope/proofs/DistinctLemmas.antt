-- No declaration is there twice in what is visible.
use Rattle.std.proofs.Common.{◌≡◌, List, [], ◌∷◌, ◌++◌, Bool, true, false, cond, not, ◌||◌, inl, inr, filter, refl, sym, ◌∙◌, ap, subst, Some}
use Rattle.std.specs.List.{list_any}
use Rattle.al_view.specs.declared.view.ViewKind.{ViewKind}
use Rattle.al_view.specs.Homographs.{Signature, homographs, signature_of, types_of}
use Rattle.al_view.proofs.HomographLemmas.{homographs-Decides}
use Rattle.al_scope.specs.declared.hiding.RegionEntry.{RegionEntry}
use Rattle.al_scope.specs.Visible.{clash, direct, shuts_out, use_visible}
use Rattle.al_scope.specs.VisibleSet.{AllOnce, Has, Once}
use Rattle.al_scope.proofs.VisibleLemmas.{filter-has, has-left, has-split}

-- each declaration is a homograph of itself
homographs-self : (v : ViewKind) → homographs v v ≡ true
homographs-self v = (homographs-Decides v v).1 same
  where
    same : (s u : Signature) → signature_of v ≡ Some s → signature_of v ≡ Some u → types_of s ≡ types_of u
    same s u i j = let one : s ≡ u = cc in ap types_of one

pub or-right : (a b : Bool) → b ≡ true → (a || b) ≡ true
or-right true b h = refl
or-right false b h = h

pub any-self : (vs : List ViewKind) (v : ViewKind) → Has vs v → list_any (homographs v) vs ≡ true
any-self [] v h = absurd h
any-self (x ∷ xs) v (inl e) = subst (λ (y : ViewKind). (homographs v y || list_any (homographs v) xs) ≡ true) (sym e) (ap (λ b. b || list_any (homographs v) xs) (homographs-self v))
any-self (x ∷ xs) v (inr h) = or-right (homographs v x) (list_any (homographs v) xs) (any-self xs v h)

-- what a region declares it shuts out
own-shut : (f : RegionEntry) (v : ViewKind) → Has f.views v → shuts_out v f ≡ true
own-shut f v h = or-right f.begun (list_any (homographs v) f.views) (any-self f.views v h)

-- what is directly visible some region shuts out
direct-shut : (fs : List RegionEntry) (v : ViewKind) → Has (direct fs) v → list_any (shuts_out v) fs ≡ true
direct-shut [] v h = absurd h
direct-shut (f ∷ inner) v h =
    elim (has-split (direct inner) (filter (λ x. not (list_any (shuts_out x) inner)) f.views) v h) [
      | inl k ↦ or-right (shuts_out v f) (list_any (shuts_out v) inner) (direct-shut inner v k)
      | inr k ↦ let both = has-left (λ x. list_any (shuts_out x) inner) f.views v k in
          ap (λ b. b || list_any (shuts_out v) inner) (own-shut f v both.0)
    ]

pub once-filter : (p : ViewKind → Bool) (xs : List ViewKind) → Once xs → Once (filter p xs)
once-filter p [] h = tt
once-filter p (x ∷ xs) h = at (p x) (once-filter p xs h.1)
  where
    at : (b : Bool) → Once (filter p xs) → Once (cond b (x ∷ filter p xs) (filter p xs))
    at false more = more
    at true more = (λ k. h.0 (filter-has p xs x k).0, more)

pub once-join : (xs ys : List ViewKind) → Once xs → Once ys → ((v : ViewKind) → Has xs v → Has ys v → ⊥) → Once (xs ++ ys)
once-join [] ys one two apart = two
once-join (x ∷ xs) ys one two apart = (λ k. elim (has-split xs ys x k) [ inl i ↦ one.0 i | inr i ↦ apart x (inl refl) i ], once-join xs ys one.1 two (λ v i j. apart v (inr i) j))

-- what is shut out isn't among what is left
not-both : (p : ViewKind → Bool) (xs : List ViewKind) (v : ViewKind) → p v ≡ true → Has (filter (λ x. not (p x)) xs) v → ⊥
not-both p xs v h k = let both = has-left p xs v k in let bad : true ≡ false = sym h ∙ both.1 in absurd (cc)

once-direct : (fs : List RegionEntry) → AllOnce fs → Once (direct fs)
once-direct [] h = tt
once-direct (f ∷ inner) h = once-join (direct inner) (filter (λ x. not (list_any (shuts_out x) inner)) f.views)
    (once-direct inner h.1)
    (once-filter (λ x. not (list_any (shuts_out x) inner)) f.views h.0)
    (λ v i j. not-both (λ x. list_any (shuts_out x) inner) f.views v (direct-shut inner v i) j)

pub once-visible : (fs : List RegionEntry) (vs : List ViewKind) → AllOnce fs → Once (use_visible fs vs) → Once (direct fs ++ use_visible fs vs)
once-visible fs vs one two = at (clash vs) two
  where
    at : (b : Bool) → Once (cond b [] (filter (λ v. not (list_any (shuts_out v) fs)) vs)) → Once (direct fs ++ cond b [] (filter (λ v. not (list_any (shuts_out v) fs)) vs))
    at true more = once-join (direct fs) [] (once-direct fs one) tt (λ v i j. j)
    at false more = once-join (direct fs) (filter (λ v. not (list_any (shuts_out v) fs)) vs) (once-direct fs one) more (λ v i j. not-both (λ x. list_any (shuts_out x) fs) vs v (direct-shut fs v i) j)
