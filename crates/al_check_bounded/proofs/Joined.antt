-- Lists that grow item by item.
use Rattle.std.proofs.Common.{◌≡◌, ◌+◌, ◌<◌, ℕ, List, [], ◌∷◌, ◌++◌, append-nil, append_assoc, get_or, length, take, Option, Some, None, refl, sym, ap, ◌∙◌, slice_get}
use Rattle.std.specs.List.{flat_map}
use Rattle.std.proofs.lemmas.Grind.{flat_map-append}
use Rattle.std.proofs.lemmas.List.{take_more}
use Rattle.std.proofs.lemmas.List.Folds.{flat_map-map}
use Rattle.std.proofs.lemmas.Option.{slice_get-get_or}
use Rattle.al_view.specs.declared.part.Part.{Part}
use Rattle.al_view.specs.declared.part.Part.TheVariants.{Visible, Private, Body, Stub}
use Rattle.al_query.specs.declared.query.Query.{Query}
use Rattle.al_check_bounded.specs.Questions.{parts_of}

pub append-none : {A : Type 0} (xs : List A) → xs ≡ xs ++ []
append-none xs = sym (append-nil xs)

-- what one item more gives
pub flat_more : {X A : Type 0} (f : X → List A) (xs : List X) (i : ℕ) (x : X) → i < length xs → x ≡ get_or xs i x → flat_map f (take (i + 1) xs) ≡ flat_map f (take i xs) ++ f x
flat_more f xs i x less is =
    ap (flat_map f) (take_more xs i x less ∙ ap (λ y. take i xs ++ y ∷ []) (sym is)) ∙ flat_map-append f (take i xs) (x ∷ []) ∙ ap (λ ys. flat_map f (take i xs) ++ ys) (append-nil (f x))

pub views-more : {X A : Type 0} (f : X → List A) (xs : List X) (i : ℕ) (x : X) (old mid new : List A) → i < length xs → x ≡ get_or xs i x → mid ≡ old ++ flat_map f (take i xs) → new ≡ mid ++ f x → new ≡ old ++ flat_map f (take (i + 1) xs)
views-more f xs i x old mid new less is before now =
    now ∙ ap (λ m. m ++ f x) before ∙ append_assoc old (flat_map f (take i xs)) (f x) ∙ ap (λ ys. old ++ ys) (sym (flat_more f xs i x less is))

-- the one that is found at a place
pub at_place : {X : Type 0} (xs : List X) (i : ℕ) (e x : X) → i < length xs → Some x ≡ slice_get xs i → x ≡ get_or xs i e
at_place xs i e x less is = let whole : Some x ≡ Some (get_or xs i e) = is ∙ slice_get-get_or xs i e less in cc

pub none_there : {X : Type 0} (xs : List X) (i : ℕ) (e : X) → i < length xs → None ≡ slice_get xs i → ⊥
none_there xs i e less is = let whole : None ≡ Some (get_or xs i e) = is ∙ slice_get-get_or xs i e less in cc

-- what one item more gives, whichever value means none
pub views-at : {X A : Type 0} (f : X → List A) (xs : List X) (i : ℕ) (e : X) (old mid new : List A) → i < length xs → mid ≡ old ++ flat_map f (take i xs) → new ≡ mid ++ f (get_or xs i e) → new ≡ old ++ flat_map f (take (i + 1) xs)
views-at f xs i e old mid new less before now =
    now ∙ ap (λ m. m ++ f (get_or xs i e)) before ∙ append_assoc old (flat_map f (take i xs)) (f (get_or xs i e))
    ∙ ap (λ ys. old ++ ys)
    (sym (ap (flat_map f) (take_more xs i e less) ∙ flat_map-append f (take i xs) (get_or xs i e ∷ []) ∙ ap (λ ys. flat_map f (take i xs) ++ ys) (append-nil (f (get_or xs i e)))))

-- all parts of a unit, one after the other
pub all_parts : (f : Part → List Query) (stubs : List (List ℕ)) (a b c d e : List Query) → b ≡ a ++ f Visible → c ≡ b ++ f Private → d ≡ c ++ f Body → e ≡ d ++ flat_map (λ s. f (Stub s)) stubs → e ≡ a ++ flat_map f (parts_of stubs)
all_parts f stubs a b c d e one two three four =
    let last = flat_map (λ s. f (Stub s)) stubs in
    four ∙ ap (λ x. x ++ flat_map (λ s. f (Stub s)) stubs) (three ∙ ap (λ x. x ++ f Body) (two ∙ ap (λ x. x ++ f Private) one))
    ∙ append_assoc ((a ++ f Visible) ++ f Private) (f Body) last ∙ append_assoc (a ++ f Visible) (f Private) (f Body ++ last) ∙ append_assoc a (f Visible) (f Private ++ (f Body ++ last))
    ∙ ap (λ x. a ++ (f Visible ++ (f Private ++ (f Body ++ x)))) (sym (flat_map-map f Stub stubs))
