-- Keys in order: the same keys, and the same number of them if each was there once.
use Rattle.std.proofs.Common.{◌≡◌, ◌↔◌, ◌+◌, List, [], ◌∷◌, ◌++◌, map, length, inl, inr, append_assoc, refl, sym, ap, subst, ◌∙◌, arith}
use Rattle.std.specs.List.{Contains, fold}
use Rattle.std.specs.Ordering.{match_ordering, nat_cmp}
use Rattle.std.proofs.lemmas.Map.Lookups.{CmpEqualImpliesEq, exact_bytes, exact_pairs}
use Rattle.std.specs.declared.cmp.Ordering.{Ordering}
use Rattle.std.specs.declared.cmp.Ordering.TheVariants.{Less, Equal, Greater}
use Rattle.std.specs.BTreeSet.{insert_key}
use Rattle.al_base.specs.Batch.{Key, key_of}
use Rattle.al_base.specs.Files.{name_cmp}
use Rattle.al_base.specs.declared.unit_key.UnitKey.{UnitKey}
use Rattle.al_base.specs.declared.unit_key.UnitKind.TheVariants.{Decl, Body, Sub}
use Rattle.al_base_graph.proofs.Members.{first, later, first_or_later, nowhere}
use Rattle.al_unit_graph.specs.Orders.{in_order, key_cmp, kind_place}
use Rattle.al_unit_graph.proofs.OrderLemmas.{from_in_order, into_in_order}

kind_exact : CmpEqualImpliesEq (λ a b. nat_cmp (kind_place a) (kind_place b))
kind_exact Decl Decl is = refl
kind_exact Body Body is = refl
kind_exact Sub Sub is = refl
kind_exact Decl Body is = absurd (cc)
kind_exact Decl Sub is = absurd (cc)
kind_exact Body Decl is = absurd (cc)
kind_exact Body Sub is = absurd (cc)
kind_exact Sub Decl is = absurd (cc)
kind_exact Sub Body is = absurd (cc)

equal_there : CmpEqualImpliesEq key_cmp
equal_there = exact_pairs name_cmp (λ a b. nat_cmp (kind_place a) (kind_place b)) exact_bytes kind_exact

nothing-after : (ks : List Key) → ks ++ [] ≡ ks
nothing-after [] = refl
nothing-after (k ∷ ks) = ap (λ (l : List Key). k ∷ l) (nothing-after ks)

insert-length : (ks : List Key) (k : Key) → (Contains ks k → ⊥) → length (insert_key key_cmp ks k) ≡ length ks + 1
insert-length [] k none = refl
insert-length (x ∷ xs) k none = by (key_cmp k x) refl (insert-length xs k (λ c. none (later x xs k c)))
  where
    by : (o : Ordering) → key_cmp k x ≡ o → length (insert_key key_cmp xs k) ≡ length xs + 1 → length (match_ordering o (k ∷ x ∷ xs) (x ∷ xs) (x ∷ insert_key key_cmp xs k)) ≡ length (x ∷ xs) + 1
    by Less is rest = omega arith
    by Equal is rest = absurd (none (subst (λ (y : Key). Contains (x ∷ xs) y) (sym (equal_there k x is)) (first x xs)))
    by Greater is rest = omega (arith, rest)

fold-more : {A X : Type 0} (f : A → X → A) (a : A) (xs : List X) (x : X) → fold f a (xs ++ x ∷ []) ≡ f (fold f a xs) x
fold-more f a [] x = refl
fold-more f a (y ∷ ys) x = fold-more f (f a y) ys x

pub in_order-none : in_order [] ≡ []
unfolding in_order
in_order-none = refl

pub in_order-more : (ks : List Key) (k : Key) → in_order (ks ++ k ∷ []) ≡ insert_key key_cmp (in_order ks) k
unfolding in_order
in_order-more ks k = fold-more (insert_key key_cmp) [] ks k

-- none of these is among those before it
abbrev pub NoneTwice : List Key → List Key → Type 0
NoneTwice seen [] = Unit {0}
NoneTwice seen (k ∷ ks) = (Contains seen k → ⊥) × NoneTwice (seen ++ k ∷ []) ks

length-from : (seen ks : List Key) → NoneTwice seen ks → length (in_order (seen ++ ks)) ≡ length (in_order seen) + length ks
length-from seen [] none = ap (λ l. length (in_order l)) (nothing-after seen) ∙ omega arith
length-from seen (k ∷ ks) none =
    let rest = length-from (seen ++ k ∷ []) ks none.1 in
    let one : length (in_order (seen ++ k ∷ [])) ≡ length (in_order seen) + 1 = ap length (in_order-more seen k) ∙ insert-length (in_order seen) k (λ c. none.0 (from_in_order seen k c)) in
    let whole : length (in_order (seen ++ (k ∷ ks))) ≡ length (in_order ((seen ++ k ∷ []) ++ ks)) = ap (λ l. length (in_order l)) (sym (append_assoc seen (k ∷ []) ks)) in
    whole ∙ rest ∙ omega (arith, one)

pub as-many : (ks : List Key) → NoneTwice [] ks → length (in_order ks) ≡ length ks
as-many ks none =
    let front : 0 + length ks ≡ length ks = omega arith in
    length-from [] ks none ∙ ap (λ l. length l + length ks) in_order-none ∙ front

-- units and their keys
pub to-keys : (us : List UnitKey) (u : UnitKey) → Contains us u → Contains (map key_of us) (key_of u)
to-keys [] u c = absurd (nowhere u c)
to-keys (x ∷ xs) u c =
    elim (first_or_later x xs u c) as (λ _. Contains (map key_of (x ∷ xs)) (key_of u)) [
      | inl is ↦ subst (λ (y : UnitKey). Contains (map key_of (x ∷ xs)) (key_of y)) is (first (key_of x) (map key_of xs))
      | inr h ↦ later (key_of x) (map key_of xs) (key_of u) (to-keys xs u h)
    ]

same-unit : (a b : UnitKey) → key_of a ≡ key_of b → a ≡ b
same-unit a b is = ap (λ (k : Key). record { name = k.0; kind = k.1 }) is

pub of-keys : (us : List UnitKey) (u : UnitKey) → Contains (map key_of us) (key_of u) → Contains us u
of-keys [] u c = absurd (nowhere (key_of u) c)
of-keys (x ∷ xs) u c =
    elim (first_or_later (key_of x) (map key_of xs) (key_of u) c) as (λ _. Contains (x ∷ xs) u) [
      | inl is ↦ subst (λ (y : UnitKey). Contains (x ∷ xs) y) (same-unit x u is) (first x xs)
      | inr h ↦ later x xs u (of-keys xs u h)
    ]

-- sorted units are the same units
pub same-units : (us sorted : List UnitKey) → map key_of sorted ≡ in_order (map key_of us) → (u : UnitKey) → Contains sorted u ↔ Contains us u
same-units us sorted is u = (
  (λ c. of-keys us u (from_in_order (map key_of us) (key_of u) (subst (λ (ks : List Key). Contains ks (key_of u)) is (to-keys sorted u c)))),
  (λ c. of-keys sorted u (subst (λ (ks : List Key). Contains ks (key_of u)) (sym is) (into_in_order (map key_of us) (key_of u) (to-keys us u c)))),
)
