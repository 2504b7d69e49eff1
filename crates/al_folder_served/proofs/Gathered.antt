-- Lists that are gathered element by element.
use Rattle.std.proofs.Common.{◌≡◌, ℕ, ◌+◌, ◌<◌, Bool, true, false, ◌||◌, List, [], ◌∷◌, ◌++◌, fold, length, take, map, get_or, refl, sym, ap, ◌∙◌, append-nil, append_assoc}
use Rattle.std.specs.List.{flat_map, list_any}
use Rattle.std.proofs.lemmas.List.{take_more, map-append}
use Rattle.std.proofs.lemmas.Grind.{flat_map-append, fold-append}
use Rattle.al_base.specs.Batch.{Key, key_of}
use Rattle.al_base.specs.declared.unit_key.UnitKey.{UnitKey}
use Rattle.al_unit_graph.specs.Closures.{is_same_key, with_item}
use Rattle.al_folder_served.specs.Reasons.{is_other, with_other}

one_more : {X Y : Type 0} (g : X → Y) (xs : List X) (i : ℕ) (x : X) → i < length xs → x ≡ get_or xs i x → map g (take (i + 1) xs) ≡ map g (take i xs) ++ g x ∷ []
one_more g xs i x lt is =
    ap (λ ys. map g ys) (take_more xs i x lt ∙ ap (λ y. take i xs ++ y ∷ []) (sym is))
    ∙ map-append g (take i xs) (x ∷ [])

pub fold_one_more : {X Y Z : Type 0} (f : Z → Y → Z) (a : Z) (g : X → Y) (xs : List X) (i : ℕ) (x : X) → i < length xs → x ≡ get_or xs i x → fold f a (map g (take (i + 1) xs)) ≡ f (fold f a (map g (take i xs))) (g x)
fold_one_more f a g xs i x lt is = ap (λ ys. fold f a ys) (one_more g xs i x lt is) ∙ fold-append f a (map g (take i xs)) (g x ∷ [])

pub flat_one_more : {X Y Z : Type 0} (f : Y → List Z) (g : X → Y) (xs : List X) (i : ℕ) (x : X) → i < length xs → x ≡ get_or xs i x → flat_map f (map g (take (i + 1) xs)) ≡ flat_map f (map g (take i xs)) ++ f (g x)
flat_one_more f g xs i x lt is =
    ap (λ ys. flat_map f ys) (one_more g xs i x lt is)
    ∙ flat_map-append f (map g (take i xs)) (g x ∷ [])
    ∙ ap (λ ys. flat_map f (map g (take i xs)) ++ ys) (append-nil (f (g x)))

pub map_one_more : {X Y : Type 0} (g : X → Y) (xs : List X) (i : ℕ) (x : X) → i < length xs → x ≡ get_or xs i x → map g (take (i + 1) xs) ≡ map g (take i xs) ++ g x ∷ []
map_one_more g xs i x lt is = one_more g xs i x lt is

pub names_one_more : (old new : List (List ℕ)) (xs : List (List ℕ)) (i : ℕ) (x : List ℕ) → i < length xs → x ≡ get_or xs i x → new ≡ (old ++ take i xs) ++ x ∷ [] → new ≡ old ++ take (i + 1) xs
names_one_more old new xs i x lt is added =
    added ∙ append_assoc old (take i xs) (x ∷ []) ∙ ap (λ ys. old ++ ys) (sym (take_more xs i x lt ∙ ap (λ y. take i xs ++ y ∷ []) (sym is)))

any_of_map : (key : Key) (units : List UnitKey) → list_any (λ y. is_same_key y key) (map key_of units) ≡ list_any (λ one. is_same_key (key_of one) key) units
any_of_map key [] = refl
any_of_map key (unit ∷ units) = ap (λ b. is_same_key (key_of unit) key || b) (any_of_map key units)

with_item_if : (b : Bool) (keys : List Key) (key : Key) → list_any (λ y. is_same_key y key) keys ≡ b → with_item is_same_key keys key ≡ (elim b as (λ v. List Key) [ true ↦ keys | false ↦ keys ++ key ∷ [] ])
with_item_if true keys key is = rw is refl
with_item_if false keys key is = rw is refl

pub with_item_among : (units : List UnitKey) (key : Key) → list_any (λ one. is_same_key (key_of one) key) units ≡ true → with_item is_same_key (map key_of units) key ≡ map key_of units
with_item_among units key is = with_item_if true (map key_of units) key (any_of_map key units ∙ is)

pub with_item_new : (units : List UnitKey) (key : Key) → list_any (λ one. is_same_key (key_of one) key) units ≡ false → with_item is_same_key (map key_of units) key ≡ map key_of units ++ key ∷ []
with_item_new units key is = with_item_if false (map key_of units) key (any_of_map key units ∙ is)

pub with_other_some : (x : Key) (found : List Key) (y : Key) → is_other x y ≡ true → with_other x found y ≡ with_item is_same_key found y
with_other_some x found y is = rw is refl

pub with_other_none : (x : Key) (found : List Key) (y : Key) → is_other x y ≡ false → with_other x found y ≡ found
with_other_none x found y is = rw is refl

pub bytes_one_more : {Y : Type 0} (line : Y → List ℕ) (xs : List Y) (i : ℕ) (x : Y) → i < length xs → x ≡ get_or xs i x → flat_map line (take (i + 1) xs) ≡ flat_map line (take i xs) ++ line x
bytes_one_more line xs i x lt is =
    ap (λ ys. flat_map line ys) (take_more xs i x lt ∙ ap (λ y. take i xs ++ y ∷ []) (sym is))
    ∙ flat_map-append line (take i xs) (x ∷ [])
    ∙ ap (λ ys. flat_map line (take i xs) ++ ys) (append-nil (line x))
