-- Lists that are the same so far, and at the next place.
use Rattle.std.proofs.Common.{◌≡◌, ℕ, ◌+◌, suc, zero, List, [], ◌∷◌, take, slice_get, refl}
use Rattle.std.proofs.Math.Numerals.{add-one}

same_next : {X : Type 0} (xs ys : List X) (i : ℕ) → slice_get xs i ≡ slice_get ys i → take i xs ≡ take i ys → take (suc i) xs ≡ take (suc i) ys
same_next [] [] i next so_far = refl
same_next [] (y ∷ ys) zero next so_far = absurd (cc)
same_next [] (y ∷ ys) (suc i) next so_far = absurd (cc)
same_next (x ∷ xs) [] zero next so_far = absurd (cc)
same_next (x ∷ xs) [] (suc i) next so_far = absurd (cc)
same_next (x ∷ xs) (y ∷ ys) zero next so_far = cc
same_next (x ∷ xs) (y ∷ ys) (suc i) next so_far =
    let first : x ≡ y = cc in
    let rest : take i xs ≡ take i ys = cc in
    let more = same_next xs ys i next rest in
    cc

pub same_more : {X : Type 0} (xs ys : List X) (i : ℕ) → slice_get xs i ≡ slice_get ys i → take i xs ≡ take i ys → take (i + 1) xs ≡ take (i + 1) ys
same_more xs ys i next so_far = rw (add-one i) (same_next xs ys i next so_far)
