-- Tests of lists that are joined of others, and loops that end at the first that doesn't pass.
use Rattle.std.proofs.Common.{◌≡◌, ◌≤◌, ◌<◌, ℕ, Bool, true, false, ◌&&◌, List, [], ◌∷◌, ◌++◌, drop, get_or, length, map, refl, sym, ap, ◌∙◌}
use Rattle.std.specs.List.{flat_map, list_all}
use Rattle.std.proofs.lemmas.List.{at_drop_all}
use Rattle.std.proofs.lemmas.List.Folds.{list_all-append, list_all_at}
use Rattle.al_view_typed.specs.Listed.{listed}

-- all that items give passes if what each gives passes
pub all_given : {X A : Type 0} (p : A → Bool) (f : X → List A) (xs : List X) → list_all p (flat_map f xs) ≡ list_all (λ x. list_all p (f x)) xs
all_given p f [] = refl
all_given p f (x ∷ xs) = list_all-append p (f x) (flat_map f xs) ∙ ap (λ b. list_all p (f x) && b) (all_given p f xs)

-- one doesn't pass
pub stops : {X : Type 0} (q : X → Bool) (xs : List X) (i : ℕ) (x : X) (r whole : Bool) → x ≡ get_or xs i x → i < length xs → r ≡ q x → r ≡ false → whole ≡ list_all q xs → false ≡ whole
stops q xs i x r whole is less passed fails all = sym (all ∙ list_all_at q xs i x less (ap q (sym is) ∙ sym passed ∙ fails))

-- all that are left pass if all do, and none is left
pub ends : {X : Type 0} (q : X → Bool) (xs : List X) (i : ℕ) (whole : Bool) → length xs ≤ i → list_all q (drop i xs) ≡ list_all q xs → whole ≡ list_all q xs → true ≡ whole
ends q xs i whole all rest is = sym (at_drop_all (list_all q) xs i all) ∙ rest ∙ sym is

-- all that a list gives, whose own form has two constructors, passes if what each item gives passes
pub all_listed : {D A B C : Type 0} (p : C → Bool) (more : A → B → B) (none : B) (f : A → List C) (g : B → List C) (h : D → A) → g none ≡ [] → ((x : A) (y : B) → g (more x y) ≡ f x ++ g y) → (xs : List D) → list_all p (g (listed more none (map h xs))) ≡ list_all (λ x. list_all p (f (h x))) xs
all_listed p more none f g h at_none at_more [] = ap (list_all p) at_none
all_listed p more none f g h at_none at_more (x ∷ xs) =
    ap (list_all p) (at_more (h x) (listed more none (map h xs))) ∙ list_all-append p (f (h x)) (g (listed more none (map h xs)))
    ∙ ap (λ b. list_all p (f (h x)) && b) (all_listed p more none f g h at_none at_more xs)

-- all that changed items give
pub all_mapped : {D A C : Type 0} (p : C → Bool) (f : A → List C) (h : D → A) (xs : List D) → list_all p (flat_map f (map h xs)) ≡ list_all (λ x. list_all p (f (h x))) xs
all_mapped p f h [] = refl
all_mapped p f h (x ∷ xs) = list_all-append p (f (h x)) (flat_map f (map h xs)) ∙ ap (λ b. list_all p (f (h x)) && b) (all_mapped p f h xs)

-- what is joined of two passes if both do
pub both : {A : Type 0} (p : A → Bool) (xs ys : List A) (a b : Bool) → a ≡ list_all p xs → a ≡ true → b ≡ list_all p ys → b ≡ list_all p (xs ++ ys)
both p xs ys a b one passed two = two ∙ ap (λ (c : Bool). c && list_all p ys) (sym passed ∙ one) ∙ sym (list_all-append p xs ys)

-- what is joined of two doesn't pass if the first doesn't
pub first_fails : {A : Type 0} (p : A → Bool) (xs ys : List A) (a : Bool) → a ≡ list_all p xs → a ≡ false → false ≡ list_all p (xs ++ ys)
first_fails p xs ys a one fails = ap (λ (c : Bool). c && list_all p ys) (sym fails ∙ one) ∙ sym (list_all-append p xs ys)

-- what is joined of two doesn't pass if the second doesn't
pub second_fails : {A : Type 0} (p : A → Bool) (xs ys : List A) (b : Bool) → b ≡ list_all p ys → b ≡ false → list_all p (xs ++ ys) ≡ false
second_fails p xs ys b two fails = list_all-append p xs ys ∙ ap (λ (c : Bool). list_all p xs && c) (sym two ∙ fails) ∙ never (list_all p xs)
  where
    never : (a : Bool) → (a && false) ≡ false
    never true = refl
    never false = refl

-- if the second passes, the first decides
pub first_decides : {A : Type 0} (p : A → Bool) (xs ys : List A) (b : Bool) → b ≡ list_all p ys → b ≡ true → list_all p (xs ++ ys) ≡ list_all p xs
first_decides p xs ys b two passed = list_all-append p xs ys ∙ ap (λ (c : Bool). list_all p xs && c) (sym two ∙ passed) ∙ as_it_is (list_all p xs)
  where
    as_it_is : (a : Bool) → (a && true) ≡ a
    as_it_is true = refl
    as_it_is false = refl
