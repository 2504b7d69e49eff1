-- A predicate of each member, and of what may be there.
use Rattle.std.proofs.Common.{Bool, true, false, List, [], ◌∷◌, ◌++◌, Option, Some, None, filter, map, if◌then◌else◌, fold}
use Rattle.std.specs.Bool.{⊤}
use Rattle.std.specs.List.{flat_map}

module _ {X : Type 0} (P : X → Type 0) where
  abbrev pub All : List X → Type 0
  All [] = ⊤
  All (x ∷ xs) = P x × All xs

  pub all-append : (xs ys : List X) → All xs → All ys → All (xs ++ ys)
  all-append [] ys a b = b
  all-append (x ∷ xs) ys a b = (a.0, all-append xs ys a.1 b)

  pub all-filter : (p : X → Bool) (xs : List X) → All xs → All (filter p xs)
  all-filter p [] a = tt
  all-filter p (x ∷ xs) a = at (p x) (all-filter p xs a.1)
    where
      at : (b : Bool) → All (filter p xs) → All (if b then x ∷ filter p xs else filter p xs)
      at true r = (a.0, r)
      at false r = r

  -- one of two
  pub one_of : (b : Bool) (x y : X) → P x → P y → P (if b then x else y)
  one_of true x y a b = a
  one_of false x y a b = b

  -- what may be there
  abbrev pub Maybe : Option X → Type 0
  Maybe None = ⊤
  Maybe (Some x) = P x

module _ {X Y : Type 0} (P : X → Type 0) (Q : Y → Type 0) where
  pub all-flat : (g : X → List Y) → ((x : X) → P x → All Q (g x)) → (xs : List X) → All P xs → All Q (flat_map g xs)
  all-flat g h [] a = tt
  all-flat g h (x ∷ xs) a = all-append Q (g x) (flat_map g xs) (h x a.0) (all-flat g h xs a.1)

  pub all-map : (g : X → Y) → ((x : X) → P x → Q (g x)) → (xs : List X) → All P xs → All Q (map g xs)
  all-map g h [] a = tt
  all-map g h (x ∷ xs) a = (h x a.0, all-map g h xs a.1)

  pub kept-fold : (f : Y → X → Y) → ((y : Y) (x : X) → Q y → P x → Q (f y x)) → (y : Y) (xs : List X) → Q y → All P xs → Q (fold f y xs)
  kept-fold f h y [] a b = a
  kept-fold f h y (x ∷ xs) a b = kept-fold f h (f y x) xs (h y x a b.0) b.1

  pub maybe-next : (a : Option X) (f : X → Option Y) → Maybe P a → ((x : X) → P x → Maybe Q (f x)) → Maybe Q (Rattle.std.specs.Option.option_and_then f a)
  maybe-next (Some a) f p h = h a p
  maybe-next None f p h = tt

-- anything
pub anything : {X : Type 0} (xs : List X) → All (λ (x : X). ⊤) xs
anything [] = tt
anything (x ∷ xs) = (tt, anything xs)

abbrev pub by_first : {X Y : Type 0} → List X → Y → Y → Y
by_first [] y z = y
by_first (x ∷ xs) y z = z

module _ {X : Type 0} (Q : X → Type 0) where
  pub all-left : (xs ys : List X) → All Q (xs ++ ys) → All Q xs
  all-left [] ys a = tt
  all-left (x ∷ xs) ys a = (a.0, all-left xs ys a.1)

  pub all-right : (xs ys : List X) → All Q (xs ++ ys) → All Q ys
  all-right [] ys a = a
  all-right (x ∷ xs) ys a = all-right xs ys a.1
