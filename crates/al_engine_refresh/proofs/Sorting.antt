-- Lists in order, and lists whose members have something in common.
use Rattle.std.proofs.Common.{◌≡◌, List, [], ◌∷◌, ◌++◌}
use Rattle.std.specs.List.{AllByRecursion, Contains}
use Rattle.std.specs.List.Sorted.{IsStrictlySortedBy}
use Rattle.std.specs.declared.cmp.Ordering.{Ordering}
use Rattle.std.specs.declared.cmp.Ordering.TheVariants.{Less}
use Rattle.al_base_graph.proofs.Members.{first, later}

module _ {X : Type 0} where
  pub all_of : (P : X → Type 0) (xs : List X) → ((x : X) → Contains xs x → P x) → AllByRecursion P xs
  all_of P [] each = tt
  all_of P (x ∷ xs) each = (each x (first x xs), all_of P xs (λ y c. each y (later x xs y c)))

  pub all_weaker : (P Q : X → Type 0) → ((x : X) → P x → Q x) → (xs : List X) → AllByRecursion P xs → AllByRecursion Q xs
  all_weaker P Q go [] all = tt
  all_weaker P Q go (x ∷ xs) all = (go x all.0, all_weaker P Q go xs all.1)

  pub all_append : (P : X → Type 0) (xs ys : List X) → AllByRecursion P xs → AllByRecursion P ys → AllByRecursion P (xs ++ ys)
  all_append P [] ys front back = back
  all_append P (x ∷ xs) ys front back = (front.0, all_append P xs ys front.1 back)

  pub sorted_append : (cmp : X → X → Ordering) (xs ys : List X) → IsStrictlySortedBy cmp xs → IsStrictlySortedBy cmp ys → AllByRecursion (λ x. AllByRecursion (λ y. cmp x y ≡ Less) ys) xs → IsStrictlySortedBy cmp (xs ++ ys)
  unfolding IsStrictlySortedBy
  sorted_append cmp [] ys front back across = back
  sorted_append cmp (x ∷ xs) ys front back across =
      (all_append (λ y. cmp x y ≡ Less) xs ys front.0 across.0, sorted_append cmp xs ys front.1 back across.1)
