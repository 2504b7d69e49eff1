-- Pieces that are listed one after the other.
use Rattle.std.proofs.Common.{◌≡◌, ℕ, ◌+◌, ◌<◌, List, [], ◌∷◌, ◌++◌, length, take, map, get_or, sym, ap, ◌∙◌, append-nil}
use Rattle.std.specs.List.{flat_map}
use Rattle.std.proofs.lemmas.List.{take_more, map-append}
use Rattle.std.proofs.lemmas.Grind.{flat_map-append}
use Rattle.al_why.specs.Answers.{next}

pub one_more : {X : Type 0} (f : X → List ℕ) (xs : List X) (i : ℕ) (x : X) → i < length xs → x ≡ get_or xs i x → flat_map next (map f (take (i + 1) xs)) ≡ flat_map next (map f (take i xs)) ++ next (f x)
one_more f xs i x lt is =
    ap (λ ys. flat_map next (map f ys)) (take_more xs i x lt ∙ ap (λ y. take i xs ++ y ∷ []) (sym is))
    ∙ ap (λ ys. flat_map next ys) (map-append f (take i xs) (x ∷ []))
    ∙ flat_map-append next (map f (take i xs)) (f x ∷ [])
    ∙ ap (λ ys. flat_map next (map f (take i xs)) ++ ys) (append-nil (next (f x)))
