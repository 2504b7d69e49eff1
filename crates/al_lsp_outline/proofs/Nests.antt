-- Extents that hold ranges.
use Rattle.std.proofs.Common.{◌≡◌, ℕ, zero, suc, ◌+◌, ◌<◌, ◌≤◌, List, [], ◌∷◌, ◌++◌, take, drop, length, get_or, refl, sym, ap, subst, arith}
use Rattle.std.proofs.lemmas.List.{take_more}
use Rattle.al_lsp_outline.specs.Nested.{HoldsDeeper, IsWithin}
use Rattle.al_lsp_outline.specs.declared.range.Extent.{Extent}
use Rattle.al_lsp_outline.specs.declared.range.Symbol.{Symbol}

pub within_trans : (a b c : Extent) → IsWithin a b → IsWithin b c → IsWithin a c
within_trans a b c x y = record { from = omega (arith, x.from, y.from); to = omega (arith, x.to, y.to) }

pub holds_wider : (depth : ℕ) (a b : Extent) (ss : List Symbol) → IsWithin a b → HoldsDeeper depth a ss → HoldsDeeper depth b ss
holds_wider depth a b [] w h = tt
holds_wider depth a b (s ∷ ss) w h = λ deeper. (within_trans s.whole a b (h deeper).0 w, holds_wider depth a b ss w (h deeper).1)

pub holds_more : (depth : ℕ) (a : Extent) (ss : List Symbol) (s : Symbol) → HoldsDeeper depth a ss → IsWithin s.whole a → HoldsDeeper depth a (ss ++ s ∷ [])
holds_more depth a [] s h w = λ deeper. (w, tt)
holds_more depth a (t ∷ ts) s h w = λ deeper. ((h deeper).0, holds_more depth a ts s (h deeper).1 w)

pub holds_stopped : (depth : ℕ) (a : Extent) (ss : List Symbol) (s : Symbol) (rest : List Symbol) → HoldsDeeper depth a ss → s.declared.depth ≤ depth → HoldsDeeper depth a (ss ++ s ∷ rest)
holds_stopped depth a [] s rest h ends = λ deeper. absurd (omega arith)
holds_stopped depth a (t ∷ ts) s rest h ends = λ deeper. ((h deeper).0, holds_stopped depth a ts s rest (h deeper).1 ends)

pub split_at : (xs : List Symbol) (i : ℕ) (d : Symbol) → i < length xs → take i xs ++ get_or xs i d ∷ drop (suc i) xs ≡ xs
split_at [] i d less = absurd (omega arith)
split_at (x ∷ xs) zero d less = refl
split_at (x ∷ xs) (suc i) d less = ap (λ ys. x ∷ ys) (split_at xs i d (omega arith))

-- one more range, which is held
pub holds_next : (depth : ℕ) (a b : Extent) (xs : List Symbol) (i : ℕ) (d : Symbol) → i < length xs → HoldsDeeper depth a (take i xs) → IsWithin a b → IsWithin (get_or xs i d).whole b → HoldsDeeper depth b (take (i + 1) xs)
holds_next depth a b xs i d less h wider w =
    let P : List Symbol → Type 0 = λ ss. HoldsDeeper depth b ss in
    subst P (sym (take_more xs i d less)) (holds_more depth b (take i xs) (get_or xs i d) (holds_wider depth a b (take i xs) wider h) w)

-- one that isn't deeper
pub holds_all : (depth : ℕ) (a : Extent) (xs : List Symbol) (i : ℕ) (d : Symbol) → i < length xs → HoldsDeeper depth a (take i xs) → (get_or xs i d).declared.depth ≤ depth → HoldsDeeper depth a xs
holds_all depth a xs i d less h ends =
    let P : List Symbol → Type 0 = λ ss. HoldsDeeper depth a ss in
    subst P (split_at xs i d less) (holds_stopped depth a (take i xs) (get_or xs i d) (drop (suc i) xs) h ends)
