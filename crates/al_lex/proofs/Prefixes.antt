-- Fronts of a list.
use Rattle.std.proofs.Common.{ℕ, zero, suc, ◌≡◌, ◌+◌, ◌<◌, ◌≤◌, List, [], ◌∷◌, ◌++◌, length, take, drop, refl, sym, ap, ◌∙◌, get_or, arith}
use Rattle.std.proofs.lemmas.List.{length-take-le}

-- the head of a front that isn't empty
pub head_of_front : (v : ℕ) → 0 < v → (m : ℕ) (xs : List ℕ) → get_or (take m xs) 0 0 ≡ v → get_or xs 0 0 ≡ v
head_of_front v p zero xs h = absurd (omega arith)
head_of_front v p (suc m) [] h = absurd (omega arith)
head_of_front v p (suc m) (x ∷ xs) h = h

-- the left part of a front is a front, and the right part is the front of what is after it
pub left_part : (xs ys zs : List ℕ) (m : ℕ) → take m zs ≡ xs ++ ys → take (length xs) zs ≡ xs
left_part [] ys zs m e = refl
left_part (x ∷ xs) ys zs zero e = absurd (cc)
left_part (x ∷ xs) ys [] (suc m) e = absurd (cc)
left_part (x ∷ xs) ys (z ∷ zs) (suc m) e =
    let head : z ≡ x = cc in
    let tail : take m zs ≡ xs ++ ys = cc in
    ap (λ (k : ℕ). k ∷ take (length xs) zs) head ∙ ap (λ (ks : List ℕ). x ∷ ks) (left_part xs ys zs m tail)

pub right_part : (xs ys zs : List ℕ) (m : ℕ) → m ≤ length zs → take m zs ≡ xs ++ ys → take (length ys) (drop (length xs) zs) ≡ ys
right_part [] ys zs m l e = ap (λ (k : ℕ). take k zs) (sym (ap length e) ∙ length-take-le m zs l) ∙ e
right_part (x ∷ xs) ys zs zero l e = absurd (cc)
right_part (x ∷ xs) ys [] (suc m) l e = absurd (cc)
right_part (x ∷ xs) ys (z ∷ zs) (suc m) l e = let tail : take m zs ≡ xs ++ ys = cc in right_part xs ys zs m (omega arith) tail

pub parts_length : (xs ys zs : List ℕ) (m : ℕ) → m ≤ length zs → take m zs ≡ xs ++ ys → length xs + length ys ≡ m
parts_length [] ys zs m l e = let n : length ys ≡ m = sym (ap length e) ∙ length-take-le m zs l in omega arith
parts_length (x ∷ xs) ys zs zero l e = absurd (cc)
parts_length (x ∷ xs) ys [] (suc m) l e = absurd (cc)
parts_length (x ∷ xs) ys (z ∷ zs) (suc m) l e = let tail : take m zs ≡ xs ++ ys = cc in let n = parts_length xs ys zs m (omega arith) tail in omega arith
