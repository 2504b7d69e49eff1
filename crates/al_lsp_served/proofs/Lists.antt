-- Lists that grow item by item.
use Rattle.std.proofs.Common.{◌≡◌, ℕ, ◌+◌, ◌<◌, List, [], ◌∷◌, ◌++◌, length, take, map, get_or, sym, ap, ◌∙◌, append-nil, append_assoc}
use Rattle.std.specs.List.{flat_map, fold}
use Rattle.std.proofs.lemmas.List.{take_more, map-append}
use Rattle.std.proofs.lemmas.List.Sums.{fold_more}
use Rattle.std.proofs.lemmas.Grind.{flat_map-append}

-- one more item
pub lists_more : {X Y Z : Type 0} (line : Y → List Z) (f : X → Y) (xs : List X) (i : ℕ) (x : X) → i < length xs → x ≡ get_or xs i x → flat_map line (map f (take (i + 1) xs)) ≡ flat_map line (map f (take i xs)) ++ line (f x)
lists_more line f xs i x lt is =
    ap (λ ys. flat_map line (map f ys)) (take_more xs i x lt ∙ ap (λ y. take i xs ++ y ∷ []) (sym is))
    ∙ ap (flat_map line) (map-append f (take i xs) (x ∷ []))
    ∙ flat_map-append line (map f (take i xs)) (f x ∷ [])
    ∙ ap (λ ys. flat_map line (map f (take i xs)) ++ ys) (append-nil (line (f x)))

pub fold_one : {X Y : Type 0} (f : Y → X → Y) (a : Y) (xs : List X) (i : ℕ) (x : X) → i < length xs → x ≡ get_or xs i x → fold f a (take (i + 1) xs) ≡ f (fold f a (take i xs)) x
fold_one f a xs i x lt is = fold_more f a xs i x lt ∙ ap (f (fold f a (take i xs))) (sym is)

pub map_push : {X Y : Type 0} (f : X → Y) (xs : List X) (x : X) → map f (xs ++ x ∷ []) ≡ map f xs ++ f x ∷ []
map_push f xs x = map-append f xs (x ∷ [])

-- one more behind others
pub values_more : {X Y : Type 0} (f : X → Y) (xs : List X) (i : ℕ) (d : X) (front between now : List Y) → i < length xs → between ≡ front ++ map f (take i xs) → now ≡ between ++ f (get_or xs i d) ∷ [] → now ≡ front ++ map f (take (i + 1) xs)
values_more f xs i d front between now lt is more =
    more
    ∙ ap (λ ys. ys ++ f (get_or xs i d) ∷ []) is
    ∙ append_assoc front (map f (take i xs)) (f (get_or xs i d) ∷ [])
    ∙ ap (λ ys. front ++ ys) (sym (ap (map f) (take_more xs i d lt) ∙ map-append f (take i xs) (get_or xs i d ∷ [])))
