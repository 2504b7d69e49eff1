-- The innermost region of a place.
use Rattle.std.proofs.Common.{◌≡◌, ℕ, ◌+◌, ◌-◌, ◌<◌, ◌≤◌, Bool, true, false, cond, zero, suc, List, [], ◌∷◌, ◌++◌, length, set, drop, get_or, slice_get, Some, None, add-one, refl, sym, subst, ap, ◌∙◌, arith}
use Rattle.std.proofs.lemmas.List.{drop_all}
use Rattle.std.proofs.Math.Seq.{drop-cons}
use Rattle.std.specs.List.Sorted.{IsStrictlySortedBy}
use Rattle.al_query.specs.declared.query.Query.{Query}
use Rattle.al_view.specs.declared.symbol.Symbol.{Symbol}
use Rattle.al_query.specs.declared.answer.AnswerKind.{AnswerKind}
use Rattle.al_scope.specs.declared.region.Region.{Region}
use Rattle.al_scope.specs.declared.region.UnitPart.{UnitPart}
use Rattle.al_view.specs.Named.{Declarations}
use Rattle.al_scope.specs.Places.{in_last, inner_declared, inner_parts, is_region_of, place_of, uses_at, with_part}
use Rattle.al_scope.specs.UseClauses.{EachOnce}
use Rattle.al_scope.specs.Visible.{found_in, innermost}

pub in_last-is : (change : Region → Region) (xs : List Region) (n : ℕ) (d new : Region) → n + 1 ≡ length xs → new ≡ change (get_or xs n d) → set xs n new ≡ in_last change xs
in_last-is change [] n d new h e = absurd (omega arith)
in_last-is change (x ∷ []) zero d new h e = ap (λ (r : Region). r ∷ []) e
in_last-is change (x ∷ []) (suc n) d new h e = absurd (omega arith)
in_last-is change (x ∷ y ∷ ys) zero d new h e = absurd (omega arith)
in_last-is change (x ∷ y ∷ ys) (suc n) d new h e =
    let less : n + 1 ≡ length (y ∷ ys) = omega arith in
    ap (λ (l : List Region). x ∷ l) (in_last-is change (y ∷ ys) n d new less e)

-- what the innermost region has, the parts that it continues, and what is declared in it so far
pub innermost-is : (t : Query → AnswerKind) (m : Declarations) (name : List ℕ) (xs : List Region) (n : ℕ) (d : Region) → n + 1 ≡ length xs → innermost t m name xs ≡ (found_in t m name (get_or xs n d)).views
innermost-is t m name [] n d h = absurd (omega arith)
innermost-is t m name (x ∷ []) zero d h = refl
innermost-is t m name (x ∷ []) (suc n) d h = absurd (omega arith)
innermost-is t m name (x ∷ y ∷ ys) zero d h = absurd (omega arith)
innermost-is t m name (x ∷ y ∷ ys) (suc n) d h =
    let less : n + 1 ≡ length (y ∷ ys) = omega arith in
    innermost-is t m name (y ∷ ys) n d less

pub inner_parts-is : (xs : List Region) (n : ℕ) (d : Region) → n + 1 ≡ length xs → inner_parts xs ≡ (get_or xs n d).parts
inner_parts-is [] n d h = absurd (omega arith)
inner_parts-is (x ∷ []) zero d h = refl
inner_parts-is (x ∷ []) (suc n) d h = absurd (omega arith)
inner_parts-is (x ∷ y ∷ ys) zero d h = absurd (omega arith)
inner_parts-is (x ∷ y ∷ ys) (suc n) d h =
    let less : n + 1 ≡ length (y ∷ ys) = omega arith in
    inner_parts-is (y ∷ ys) n d less

pub inner_declared-is : (xs : List Region) (n : ℕ) (d : Region) → n + 1 ≡ length xs → inner_declared xs ≡ (get_or xs n d).declared
inner_declared-is [] n d h = absurd (omega arith)
inner_declared-is (x ∷ []) zero d h = refl
inner_declared-is (x ∷ []) (suc n) d h = absurd (omega arith)
inner_declared-is (x ∷ y ∷ ys) zero d h = absurd (omega arith)
inner_declared-is (x ∷ y ∷ ys) (suc n) d h =
    let less : n + 1 ≡ length (y ∷ ys) = omega arith in
    inner_declared-is (y ∷ ys) n d less

-- ---- the place of a region, looked for from the outermost one inward

drop_here : (xs : List Region) (i : ℕ) (x : Region) → i < length xs → x ≡ get_or xs i x → drop i xs ≡ x ∷ drop (i + 1) xs
drop_here xs i x within is = drop-cons xs i x within ∙ ap (λ (y : Region). y ∷ drop (suc i) xs) (sym is) ∙ ap (λ (k : ℕ). x ∷ drop k xs) (sym (add-one i))

pub place_found : (s : Symbol) (xs : List Region) (i : ℕ) (x : Region) (whole : ℕ) → i < length xs → x ≡ get_or xs i x → is_region_of s x ≡ true → i + place_of s (drop i xs) ≡ whole → i ≡ whole
place_found s xs i x whole within is found known =
    let innermost : place_of s (drop i xs) ≡ 0 = ap (place_of s) (drop_here xs i x within is) ∙ ap (λ (b : Bool). cond b 0 (suc (place_of s (drop (i + 1) xs)))) found in
    omega (arith, innermost, known)

pub place_passed : (s : Symbol) (xs : List Region) (i : ℕ) (x : Region) (whole : ℕ) → i < length xs → x ≡ get_or xs i x → is_region_of s x ≡ false → i + place_of s (drop i xs) ≡ whole → (i + 1) + place_of s (drop (i + 1) xs) ≡ whole
place_passed s xs i x whole within is not known =
    let innermost : place_of s (drop i xs) ≡ suc (place_of s (drop (i + 1) xs)) = ap (place_of s) (drop_here xs i x within is) ∙ ap (λ (b : Bool). cond b 0 (suc (place_of s (drop (i + 1) xs)))) not in
    omega (arith, innermost, known)

pub no_place_left : (s : Symbol) (xs : List Region) (i whole : ℕ) → length xs ≤ i → i + place_of s (drop i xs) ≡ whole → i ≡ whole
no_place_left s xs i whole past known =
    let none : place_of s (drop i xs) ≡ 0 = ap (place_of s) (drop_all i xs past) in
    omega (arith, none, known)

-- a part more at the construct's region
with_part-at : (s : Symbol) (p : UnitPart) (xs : List Region) (d new : Region) → place_of s xs < length xs → new ≡ record (get_or xs (place_of s xs) d) { parts = (get_or xs (place_of s xs) d).parts ++ p ∷ [] } → set xs (place_of s xs) new ≡ with_part s p xs
with_part-at s p [] d new h e = absurd (omega arith)
with_part-at s p (x ∷ xs) d new h e = at (is_region_of s x) h e (with_part-at s p xs d new)
  where
    at : (b : Bool) → cond b 0 (suc (place_of s xs)) < length (x ∷ xs) → new ≡ record (get_or (x ∷ xs) (cond b 0 (suc (place_of s xs))) d) { parts = (get_or (x ∷ xs) (cond b 0 (suc (place_of s xs))) d).parts ++ p ∷ [] } → (place_of s xs < length xs → new ≡ record (get_or xs (place_of s xs) d) { parts = (get_or xs (place_of s xs) d).parts ++ p ∷ [] } → set xs (place_of s xs) new ≡ with_part s p xs) → set (x ∷ xs) (cond b 0 (suc (place_of s xs))) new ≡ cond b (record x { parts = x.parts ++ p ∷ [] } ∷ xs) (x ∷ with_part s p xs)
    at true h e more = ap (λ (r : Region). r ∷ xs) e
    at false h e more = ap (λ (l : List Region). x ∷ l) (more (omega arith) e)

pub with_part-is : (s : Symbol) (p : UnitPart) (xs : List Region) (n : ℕ) (d new : Region) → n ≡ place_of s xs → n < length xs → new ≡ record (get_or xs n d) { parts = (get_or xs n d).parts ++ p ∷ [] } → set xs n new ≡ with_part s p xs
with_part-is s p xs n d new is less e =
    subst (λ (k : ℕ). k < length xs → new ≡ record (get_or xs k d) { parts = (get_or xs k d).parts ++ p ∷ [] } → set xs k new ≡ with_part s p xs) (sym is) (with_part-at s p xs d new) less e

pub with_part-none : (s : Symbol) (p : UnitPart) (xs : List Region) → length xs ≤ place_of s xs → xs ≡ with_part s p xs
with_part-none s p [] h = refl
with_part-none s p (x ∷ xs) h = at (is_region_of s x) h (with_part-none s p xs)
  where
    at : (b : Bool) → length (x ∷ xs) ≤ cond b 0 (suc (place_of s xs)) → (length xs ≤ place_of s xs → xs ≡ with_part s p xs) → x ∷ xs ≡ cond b (record x { parts = x.parts ++ p ∷ [] } ∷ xs) (x ∷ with_part s p xs)
    at true h more = absurd (omega arith)
    at false h more = ap (λ (l : List Region). x ∷ l) (more (omega arith))

-- the use clauses that hold are those of the last region
uses_at-is : (xs : List Region) (n : ℕ) (r : Region) → n + 1 ≡ length xs → slice_get xs n ≡ Some r → uses_at xs ≡ r.uses
uses_at-is [] n r h e = absurd (omega arith)
uses_at-is (x ∷ []) zero r h e = let same : x ≡ r = cc in ap (λ (q : Region). q.uses) same
uses_at-is (x ∷ []) (suc n) r h e = absurd (omega arith)
uses_at-is (x ∷ y ∷ ys) zero r h e = absurd (omega arith)
uses_at-is (x ∷ y ∷ ys) (suc n) r h e =
    let less : n + 1 ≡ length (y ∷ ys) = omega arith in
    uses_at-is (y ∷ ys) n r less e

pub uses_at-last : (xs : List Region) (r : Region) → slice_get xs (length xs - 1) ≡ Some r → uses_at xs ≡ r.uses
uses_at-last [] r h = absurd (cc)
uses_at-last (x ∷ xs) r h = uses_at-is (x ∷ xs) (length (x ∷ xs) - 1) r (omega arith) h

-- a list that has a last item isn't without one
none-last : (xs : List Region) (n : ℕ) → n + 1 ≡ length xs → slice_get xs n ≡ None → ⊥
none-last [] n h e = absurd (omega arith)
none-last (x ∷ xs) zero h e = absurd (cc)
none-last (x ∷ []) (suc n) h e = absurd (omega arith)
none-last (x ∷ y ∷ ys) (suc n) h e =
    let less : n + 1 ≡ length (y ∷ ys) = omega arith in
    none-last (y ∷ ys) n less e

-- what is declared in the innermost region is what the last region declares
inner_declared-at : (xs : List Region) (n : ℕ) (r : Region) → n + 1 ≡ length xs → slice_get xs n ≡ Some r → inner_declared xs ≡ r.declared
inner_declared-at [] n r h e = absurd (omega arith)
inner_declared-at (x ∷ []) zero r h e = let same : x ≡ r = cc in ap (λ (q : Region). q.declared) same
inner_declared-at (x ∷ []) (suc n) r h e = absurd (omega arith)
inner_declared-at (x ∷ y ∷ ys) zero r h e = absurd (omega arith)
inner_declared-at (x ∷ y ∷ ys) (suc n) r h e =
    let less : n + 1 ≡ length (y ∷ ys) = omega arith in
    inner_declared-at (y ∷ ys) n r less e

pub inner_declared-last : (xs : List Region) (r : Region) → slice_get xs (length xs - 1) ≡ Some r → inner_declared xs ≡ r.declared
inner_declared-last [] r h = absurd (cc)
inner_declared-last (x ∷ xs) r h = inner_declared-at (x ∷ xs) (length (x ∷ xs) - 1) r (omega arith) h

pub inner_declared-none : (xs : List Region) → slice_get xs (length xs - 1) ≡ None → inner_declared xs ≡ []
inner_declared-none [] e = refl
inner_declared-none (x ∷ xs) e = absurd (none-last (x ∷ xs) (length (x ∷ xs) - 1) (omega arith) e)

pub each-none : (xs : List Region) → slice_get xs (length xs - 1) ≡ None → EachOnce (uses_at xs)
unfolding IsStrictlySortedBy
each-none [] e = tt
each-none (x ∷ xs) e = absurd (none-last (x ∷ xs) (length (x ∷ xs) - 1) (omega arith) e)
