-- What a region has, part by part.
use Rattle.std.proofs.Common.{◌≡◌, ℕ, ◌+◌, ◌<◌, zero, suc, List, [], ◌∷◌, ◌++◌, Bool, true, false, cond, filter, arith, take, length, get_or, refl, sym, ◌∙◌, ap}
use Rattle.std.specs.List.{flat_map}
use Rattle.std.proofs.lemmas.List.{take_more}
use Rattle.al_query.specs.declared.query.Query.{Query}
use Rattle.al_view.specs.declared.view.ViewKind.{ViewKind}
use Rattle.al_query.specs.declared.answer.AnswerKind.{AnswerKind}
use Rattle.al_scope.specs.declared.region.UnitPart.{UnitPart}
use Rattle.al_scope.specs.declared.hiding.RegionEntry.{RegionEntry}
use Rattle.al_view.specs.Named.{Declarations}
use Rattle.al_scope.specs.Visible.{declared_by}

pub append-assoc : {X : Type 0} (xs ys zs : List X) → (xs ++ ys) ++ zs ≡ xs ++ (ys ++ zs)
append-assoc [] ys zs = refl
append-assoc (x ∷ xs) ys zs = ap (λ l. x ∷ l) (append-assoc xs ys zs)

pub append-none : {X : Type 0} (xs : List X) → xs ++ [] ≡ xs
append-none [] = refl
append-none (x ∷ xs) = ap (λ l. x ∷ l) (append-none xs)

pub flat_map-push : {X Y : Type 0} (f : X → List Y) (xs : List X) (x : X) → flat_map f (xs ++ x ∷ []) ≡ flat_map f xs ++ f x
flat_map-push f [] x = append-none (f x)
flat_map-push f (y ∷ ys) x = ap (λ l. f y ++ l) (flat_map-push f ys x) ∙ sym (append-assoc (f y) (flat_map f ys) (f x))

pub flat_map-take_more : {X Y : Type 0} (f : X → List Y) (xs : List X) (i : ℕ) (d : X) → i < length xs → flat_map f (take (i + 1) xs) ≡ flat_map f (take i xs) ++ f (get_or xs i d)
flat_map-take_more f xs i d h = ap (flat_map f) (take_more xs i d h) ∙ flat_map-push f (take i xs) (get_or xs i d)

pub found-is : (b c : Bool) (v w : List ViewKind) → b ≡ c → v ≡ w → (let x : RegionEntry = record { begun = b; views = v } in let y : RegionEntry = record { begun = c; views = w } in x ≡ y)
found-is b c v w e f = ap (λ (x : Bool). let y : RegionEntry = record { begun = x; views = v } in y) e ∙ ap (λ (x : List ViewKind). let y : RegionEntry = record { begun = c; views = x } in y) f

-- what a region has, put together
pub views-are : (t : Query → AnswerKind) (m : Declarations) (name : List ℕ) (parts ps : List UnitPart) (v own views new : List ViewKind) → new ≡ v ++ own → v ≡ flat_map (declared_by t m name) ps → ps ≡ parts → own ≡ views → new ≡ flat_map (declared_by t m name) parts ++ views
views-are t m name parts ps v own views new n e p d = n ∙ ap (λ l. l ++ own) (e ∙ ap (flat_map (declared_by t m name)) p) ∙ ap (λ (l : List ViewKind). flat_map (declared_by t m name) parts ++ l) d

-- a filter that keeps an item leaves some
pub filter-some : {X : Type 0} (p : X → Bool) (xs : List X) (i : ℕ) (x : X) → i < length xs → x ≡ get_or xs i x → p x ≡ true → filter p xs ≡ [] → ⊥
filter-some p [] i x h e is none = absurd (omega arith)
filter-some p (y ∷ ys) zero x h e is none = at (p y) (ap p (sym e) ∙ is) none
  where
    at : (b : Bool) → b ≡ true → cond b (y ∷ filter p ys) (filter p ys) ≡ [] → ⊥
    at true k n = absurd (cc)
    at false k n = absurd (cc)
filter-some p (y ∷ ys) (suc i) x h e is none = at (p y) none (filter-some p ys i x (omega arith) e is)
  where
    at : (b : Bool) → cond b (y ∷ filter p ys) (filter p ys) ≡ [] → (filter p ys ≡ [] → ⊥) → ⊥
    at true n more = absurd (cc)
    at false n more = more n

-- nor is a list that one item more was joined to
pub joined-some : {X : Type 0} (xs : List X) (y : X) (ys : List X) → xs ++ y ∷ ys ≡ [] → ⊥
joined-some [] y ys none = absurd (cc)
joined-some (x ∷ xs) y ys none = absurd (cc)
