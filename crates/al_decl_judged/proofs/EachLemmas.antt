-- Lists whose elements are looked at one by one.
use Rattle.std.proofs.Common.{◌≡◌, ◌+◌, ℕ, ◌<◌, List, length, get_or, subst, ◌∙◌, arith, inl, inr}
use Rattle.std.proofs.lemmas.Bool.{cases_lt}
use Rattle.std.proofs.lemmas.List.{get_or_default}
use Rattle.al_decl_judged.specs.Conformance.{EachWith}

module _ {X Y : Type 0} (R : X → Y → Type 0) (xs : List X) (ys : List Y) (i : ℕ) (x : X) (y : Y) where
  -- what is read at a place has R if the elements there have it, at any default
  read : i < length xs → i < length ys → x ≡ get_or xs i x → y ≡ get_or ys i y → R x y → (d : X) (e : Y) → R (get_or xs i d) (get_or ys i e)
  read lx ly ex ey r d e =
      let P : X → Type 0 = λ v. R v y in
      let Q : Y → Type 0 = λ v. R (get_or xs i d) v in
      subst Q (ey ∙ get_or_default ys i y e ly) (subst P (ex ∙ get_or_default xs i x d lx) r)

  -- one more place
  pub each_more : length xs ≡ length ys → i < length xs → x ≡ get_or xs i x → y ≡ get_or ys i y → R x y
      → ((k : ℕ) (d : X) (e : Y) → k < i → R (get_or xs k d) (get_or ys k e))
      → (k : ℕ) (d : X) (e : Y) → k < i + 1 → R (get_or xs k d) (get_or ys k e)
  each_more same lt ex ey r before = λ k d e upto.
      elim (cases_lt k i) [
        | inl l ↦ before k d e l
        | inr h ↦
            let P : ℕ → Type 0 = λ m. R (get_or xs m d) (get_or ys m e) in
            let at : i ≡ k = omega arith in
            subst P at (read lt (omega arith) ex ey r d e)
      ]

-- the same of lists that are the same
pub each_same : {X Y : Type 0} (R : X → Y → Type 0) (xs us : List X) (ys bs : List Y) → xs ≡ us → ys ≡ bs → EachWith R xs ys → EachWith R us bs
each_same {X} {Y} R xs us ys bs ex ey each =
    let P : List X → Type 0 = λ l. EachWith R l ys in
    let Q : List Y → Type 0 = λ l. EachWith R us l in
    subst Q ey (subst P ex each)
