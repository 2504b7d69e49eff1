-- Lines that are written one after another.
use Rattle.std.proofs.Common.{◌≡◌, ℕ, ◌+◌, ◌<◌, List, [], ◌∷◌, ◌++◌, length, take, map, get_or, sym, ap, ◌∙◌, append-nil}
use Rattle.std.specs.List.{flat_map}
use Rattle.std.proofs.lemmas.List.{take_more, map-append}
use Rattle.std.proofs.lemmas.Grind.{flat_map-append}

-- one more line, of what elements are seen as
pub lines_more : {X Y : Type 0} (line : Y → List ℕ) (f : X → Y) (xs : List X) (i : ℕ) (x : X) → i < length xs → x ≡ get_or xs i x → flat_map line (map f (take (i + 1) xs)) ≡ flat_map line (map f (take i xs)) ++ line (f x)
lines_more line f xs i x lt is =
    ap (λ ys. flat_map line (map f ys)) (take_more xs i x lt ∙ ap (λ y. take i xs ++ y ∷ []) (sym is))
    ∙ ap (flat_map line) (map-append f (take i xs) (x ∷ []))
    ∙ flat_map-append line (map f (take i xs)) (f x ∷ [])
    ∙ ap (λ ys. flat_map line (map f (take i xs)) ++ ys) (append-nil (line (f x)))

-- one more line, of the elements themselves
pub bytes_more : {Y : Type 0} (line : Y → List ℕ) (xs : List Y) (i : ℕ) (x : Y) → i < length xs → x ≡ get_or xs i x → flat_map line (take (i + 1) xs) ≡ flat_map line (take i xs) ++ line x
bytes_more line xs i x lt is =
    ap (λ ys. flat_map line ys) (take_more xs i x lt ∙ ap (λ y. take i xs ++ y ∷ []) (sym is))
    ∙ flat_map-append line (take i xs) (x ∷ [])
    ∙ ap (λ ys. flat_map line (take i xs) ++ ys) (append-nil (line x))
