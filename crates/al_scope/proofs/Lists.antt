-- Lists that are made item by item.
use Rattle.std.proofs.Common.{◌≡◌, ℕ, ◌+◌, ◌<◌, List, [], ◌∷◌, ◌++◌, Option, Some, None, take, map, length, get_or, refl, sym, ap, ◌∙◌}
use Rattle.std.specs.List.{flat_map}
use Rattle.std.specs.Prelude.{fold, slice_get}
use Rattle.std.proofs.lemmas.List.{get_or_default, map-append, take_more}
use Rattle.std.proofs.lemmas.List.Sums.{fold_more}
use Rattle.std.proofs.lemmas.Option.{slice_get-get_or}
use Rattle.al_scope.proofs.HidingLemmas.{append-assoc, flat_map-take_more}

-- what one item more adds
pub flat_more : {X Y : Type 0} (f : X → List Y) (all before new : List Y) (xs : List X) (i : ℕ) (x : X) → i < length xs → x ≡ get_or xs i x → before ≡ all ++ flat_map f (take i xs) → new ≡ before ++ f x → new ≡ all ++ flat_map f (take (i + 1) xs)
flat_more f all before new xs i x h is b n =
    n
    ∙ ap (λ l. l ++ f x) b
    ∙ append-assoc all (flat_map f (take i xs)) (f x)
    ∙ ap (λ l. all ++ l) (ap (λ y. flat_map f (take i xs) ++ f y) is ∙ sym (flat_map-take_more f xs i x h))

flat-join : {X Y : Type 0} (f : X → List Y) (xs ys : List X) → flat_map f (xs ++ ys) ≡ flat_map f xs ++ flat_map f ys
flat-join f [] ys = refl
flat-join f (x ∷ xs) ys = ap (λ l. f x ++ l) (flat-join f xs ys) ∙ sym (append-assoc (f x) (flat_map f xs) (flat_map f ys))

-- what lists inside items add
pub nested_more : {X Y Z : Type 0} (f : Y → List Z) (g : X → List Y) (all before new : List Z) (xs : List X) (i : ℕ) (x : X) → i < length xs → x ≡ get_or xs i x → before ≡ all ++ flat_map f (flat_map g (take i xs)) → new ≡ before ++ flat_map f (g x) → new ≡ all ++ flat_map f (flat_map g (take (i + 1) xs))
nested_more f g all before new xs i x h is b n =
    n
    ∙ ap (λ l. l ++ flat_map f (g x)) b
    ∙ append-assoc all (flat_map f (flat_map g (take i xs))) (flat_map f (g x))
    ∙ ap (λ l. all ++ l) (sym (flat-join f (flat_map g (take i xs)) (g x)) ∙ ap (flat_map f) (ap (λ y. flat_map g (take i xs) ++ g y) is ∙ sym (flat_map-take_more g xs i x h)))

-- what two lists add one after the other
pub both_more : {X Y : Type 0} (f : X → List Y) (all mid new : List Y) (xs ys : List X) → mid ≡ all ++ flat_map f xs → new ≡ mid ++ flat_map f ys → new ≡ all ++ flat_map f (xs ++ ys)
both_more f all mid new xs ys m n =
    n ∙ ap (λ l. l ++ flat_map f ys) m ∙ append-assoc all (flat_map f xs) (flat_map f ys) ∙ ap (λ l. all ++ l) (sym (flat-join f xs ys))

-- after one more turn
pub folded : {X Y : Type 0} (f : Y → X → Y) (start before after : Y) (xs : List X) (i : ℕ) (x : X) → i < length xs → x ≡ get_or xs i x → before ≡ fold f start (take i xs) → after ≡ f before x
    → after ≡ fold f start (take (i + 1) xs)
folded f start before after xs i x h e b a =
    a ∙ ap (λ y. f y x) b ∙ ap (f (fold f start (take i xs))) e ∙ sym (fold_more f start xs i x h)

pub folded_at : {X Y : Type 0} (f : Y → X → Y) (start before after : Y) (xs : List X) (i : ℕ) (d : X) → i < length xs → before ≡ fold f start (take i xs)
    → ((x : X) → slice_get xs i ≡ Some x → after ≡ f before x) → after ≡ fold f start (take (i + 1) xs)
folded_at f start before after xs i d h b a =
    let x = get_or xs i d in folded f start before after xs i x h (get_or_default xs i d x h) b (a x (slice_get-get_or xs i d h))

pub mapped : {X Y : Type 0} (f : X → Y) (before after : List Y) (xs : List X) (i : ℕ) (x : X) → i < length xs → x ≡ get_or xs i x → before ≡ map f (take i xs) → after ≡ before ++ f x ∷ []
    → after ≡ map f (take (i + 1) xs)
mapped {X} {Y} f before after xs i x h e b a =
    a
    ∙ ap (λ (l : List Y). l ++ f x ∷ []) b
    ∙ ap (λ (z : X). map f (take i xs) ++ f z ∷ []) e
    ∙ sym (map-append f (take i xs) (get_or xs i x ∷ []))
    ∙ ap (map f) (sym (take_more xs i x h))

-- the same of items that are added one by one
pub map_after : {X Y : Type 0} (f : X → Y) (all before new : List Y) (xs : List X) (i : ℕ) (x : X) → i < length xs → x ≡ get_or xs i x → before ≡ all ++ map f (take i xs) → new ≡ before ++ f x ∷ [] → new ≡ all ++ map f (take (i + 1) xs)
map_after f all before new xs i x h is b n =
    n
    ∙ ap (λ l. l ++ f x ∷ []) b
    ∙ append-assoc all (map f (take i xs)) (f x ∷ [])
    ∙ ap (λ l. all ++ l) (mapped f (map f (take i xs)) (map f (take i xs) ++ f x ∷ []) xs i x h is refl refl)

pub one_value : {A : Type 0} (x y : A) (found : Option A) → Some x ≡ found → found ≡ Some y → x ≡ y
one_value x y found h k = cc

pub no_value : {A : Type 0} (y : A) (found : Option A) → None ≡ found → found ≡ Some y → ⊥
no_value y found h k = cc
