-- Findings in order, none twice.
use Rattle.std.proofs.Common.{◌≡◌, ℕ, ◌⊎◌, inl, inr, List, [], ◌∷◌, ◌++◌, map, refl, ap, subst, sym, ◌∙◌, arith}
use Rattle.std.specs.List.{Contains, AllByRecursion, fold}
use Rattle.std.specs.List.Sorted.{IsStrictlySortedBy}
use Rattle.std.specs.Ordering.{nat_cmp, ordering_then, match_ordering}
use Rattle.std.specs.BTreeSet.{insert_key}
use Rattle.std.specs.Cmp.{Equal-is, IsTotalOrder}
use Rattle.std.specs.Cmp.Lexicographic.{nat_list_cmp_total}
use Rattle.std.specs.declared.cmp.Ordering.{Ordering}
use Rattle.std.specs.declared.cmp.Ordering.TheVariants.{Less, Equal, Greater}
use Rattle.std.proofs.lemmas.Cmp.{then_total, on_total, nat_cmp_total}
use Rattle.al_base.specs.Batch.{Finding, finding_of}
use Rattle.al_base.specs.Files.{name_cmp}
use Rattle.al_base.specs.declared.diagnostic.Diagnostic.{Diagnostic}
use Rattle.al_base_graph.proofs.Members.{nowhere, first, later, first_or_later}
use Rattle.al_unit_faults.specs.Orders.{finding_cmp, ascending}
use Rattle.al_unit_faults.specs.Spots.{Spot, finding_at, spot_of}
use Rattle.al_unit_faults.proofs.UnitLemmas.{same_name, told_same_name}

module _ {K L : Type 0} (f : K → L) (R : K → K → Ordering) (S : L → L → Ordering) (alike : (a b : K) → S (f a) (f b) ≡ R a b) where
  pub mapped_insert : (ks : List K) (k : K) → map f (insert_key R ks k) ≡ insert_key S (map f ks) (f k)
  mapped_insert [] k = refl
  mapped_insert (x ∷ xs) k =
      rw (alike k x) (elim (R k x) as (λ o. map f (match_ordering o (k ∷ x ∷ xs) (x ∷ xs) (x ∷ insert_key R xs k)) ≡ match_ordering o (f k ∷ f x ∷ map f xs) (f x ∷ map f xs) (f x ∷ insert_key S (map f xs) (f k))) [
        | Less ↦ refl
        | Equal ↦ refl
        | Greater ↦ ap (λ ys. f x ∷ ys) (mapped_insert xs k)
      ])

fold_push : {A X : Type 0} (g : A → X → A) (a : A) (xs : List X) (x : X) → fold g a (xs ++ x ∷ []) ≡ g (fold g a xs) x
fold_push g a [] x = refl
fold_push g a (y ∷ ys) x = fold_push g (g a y) ys x

pub ascending-push : (fs : List Finding) (f : Finding) → ascending (fs ++ f ∷ []) ≡ insert_key finding_cmp (ascending fs) f
unfolding ascending
ascending-push fs f = fold_push (insert_key finding_cmp) [] fs f

pub ascending-none : ascending [] ≡ []
unfolding ascending
ascending-none = refl

grouped : (x y z : Ordering) → ordering_then x (ordering_then y z) ≡ ordering_then (ordering_then x y) z
grouped Less y z = refl
grouped Equal y z = refl
grouped Greater y z = refl

name_itself : (file : List ℕ) → name_cmp file file ≡ Equal
name_itself file = (Equal-is (name_cmp file file)).0 (told_same_name file file refl)

abbrev spot_cmp : Spot → Spot → Ordering
spot_cmp a b = ordering_then (ordering_then (nat_cmp a.0 b.0) (nat_cmp a.1 b.1)) (nat_cmp a.2 b.2)

pub spots_alike : (file : List ℕ) (a b : Spot) → finding_cmp (finding_at file a) (finding_at file b) ≡ spot_cmp a b
spots_alike file a b = rw (name_itself file) (grouped (nat_cmp a.0 b.0) (nat_cmp a.1 b.1) (nat_cmp a.2 b.2))

pub spot_added : (file : List ℕ) (ks : List Spot) (k : Spot) → map (finding_at file) (insert_key spot_cmp ks k) ≡ insert_key finding_cmp (map (finding_at file) ks) (finding_at file k)
spot_added file ks k = mapped_insert (finding_at file) spot_cmp finding_cmp (spots_alike file) ks k

-- findings of one file
pub of_one_file : (file : List ℕ) (ds : List Diagnostic) → ((f : Finding) → Contains (map finding_of ds) f → f.file ≡ file) → map (λ d. finding_at file (spot_of d)) ds ≡ map finding_of ds
of_one_file file [] alike = refl
of_one_file file (d ∷ ds) alike =
    let here = alike (finding_of d) (first (finding_of d) (map finding_of ds)) in
    let at : finding_at file (spot_of d) ≡ finding_of d = ap (λ n. finding_at n (spot_of d)) (sym here) in
    let rest = of_one_file file ds (λ f c. alike f (later (finding_of d) (map finding_of ds) f c)) in
    ap (λ g. g ∷ map (λ e. finding_at file (spot_of e)) ds) at ∙ ap (λ gs. finding_of d ∷ gs) rest

-- the order tells findings apart
both_equal : (x y : Ordering) → ordering_then x y ≡ Equal → (x ≡ Equal) × (y ≡ Equal)
both_equal Less y is = absurd (cc)
both_equal Equal y is = (refl, is)
both_equal Greater y is = absurd (cc)

same_number : (m n : ℕ) → nat_cmp m n ≡ Equal → m ≡ n
same_number m n is = grind (arith, is)

pub same_finding : (f g : Finding) → finding_cmp f g ≡ Equal → f ≡ g
same_finding f g is =
    let a = both_equal (name_cmp f.file g.file) _ is in
    let b = both_equal (nat_cmp f.line g.line) _ a.1 in
    let c = both_equal (nat_cmp f.col g.col) (nat_cmp f.code g.code) b.1 in
    let file = same_name f.file g.file ((Equal-is (name_cmp f.file g.file)).1 a.0) in
    let line = same_number f.line g.line b.0 in
    let col = same_number f.col g.col c.0 in
    let code = same_number f.code g.code c.1 in
    let A : List ℕ → Finding = λ x. record { file = x; line = f.line; col = f.col; code = f.code } in
    let B : ℕ → Finding = λ x. record { file = g.file; line = x; col = f.col; code = f.code } in
    let C : ℕ → Finding = λ x. record { file = g.file; line = g.line; col = x; code = f.code } in
    let D : ℕ → Finding = λ x. record { file = g.file; line = g.line; col = g.col; code = x } in
    ap A file ∙ ap B line ∙ ap C col ∙ ap D code

total : IsTotalOrder finding_cmp
total = then_total (on_total (λ f. f.file) nat_list_cmp_total) (then_total (on_total (λ f. f.line) nat_cmp_total) (then_total (on_total (λ f. f.col) nat_cmp_total) (on_total (λ f. f.code) nat_cmp_total)))

-- what an insertion adds
module _ (f : Finding) where
  abbrev put : List Finding → List Finding
  put fs = insert_key finding_cmp fs f

  from_by : (y x : Finding) (ys : List Finding) → (Contains (put ys) x → Contains (f ∷ ys) x) → (o : Ordering) → Contains (match_ordering o (f ∷ y ∷ ys) (y ∷ ys) (y ∷ put ys)) x → Contains (f ∷ y ∷ ys) x
  from_by y x ys rest Less c = c
  from_by y x ys rest Equal c = later f (y ∷ ys) x c
  from_by y x ys rest Greater c =
      elim (first_or_later y (put ys) x c) [
        | inl same ↦ later f (y ∷ ys) x (subst (λ v. Contains (y ∷ ys) v) same (first y ys))
        | inr h ↦ elim (first_or_later f ys x (rest h)) [
          | inl same ↦ subst (λ v. Contains (f ∷ y ∷ ys) v) same (first f (y ∷ ys))
          | inr g ↦ later f (y ∷ ys) x (later y ys x g)
        ]
      ]

  from_put : (fs : List Finding) (x : Finding) → Contains (put fs) x → Contains (f ∷ fs) x
  from_put [] x c = c
  from_put (y ∷ ys) x c = from_by y x ys (from_put ys x) (finding_cmp f y) c

  into_by : (y x : Finding) (ys : List Finding) → ((z : Finding) → Contains (f ∷ ys) z → Contains (put ys) z) → (o : Ordering) → finding_cmp f y ≡ o → Contains (f ∷ y ∷ ys) x → Contains (match_ordering o (f ∷ y ∷ ys) (y ∷ ys) (y ∷ put ys)) x
  into_by y x ys rest Less is c = c
  into_by y x ys rest Equal is c =
      elim (first_or_later f (y ∷ ys) x c) [
        | inl same ↦ subst (λ v. Contains (y ∷ ys) v) (sym (same_finding f y is) ∙ same) (first y ys)
        | inr h ↦ h
      ]
  into_by y x ys rest Greater is c =
      elim (first_or_later f (y ∷ ys) x c) [
        | inl same ↦ later y (put ys) x (rest x (subst (λ v. Contains (f ∷ ys) v) same (first f ys)))
        | inr h ↦ elim (first_or_later y ys x h) [
          | inl same ↦ subst (λ v. Contains (y ∷ put ys) v) same (first y (put ys))
          | inr g ↦ later y (put ys) x (rest x (later f ys x g))
        ]
      ]

  into_put : (fs : List Finding) (x : Finding) → Contains (f ∷ fs) x → Contains (put fs) x
  into_put [] x c = c
  into_put (y ∷ ys) x c = into_by y x ys (into_put ys) (finding_cmp f y) refl c

  -- an insertion keeps the order
  all_put : (b : Finding) (fs : List Finding) → finding_cmp b f ≡ Less → AllByRecursion (λ g. finding_cmp b g ≡ Less) fs → AllByRecursion (λ g. finding_cmp b g ≡ Less) (put fs)
  all_put b [] less all = (less, tt)
  all_put b (y ∷ ys) less all =
      elim (finding_cmp f y) as (λ o. AllByRecursion (λ g. finding_cmp b g ≡ Less) (match_ordering o (f ∷ y ∷ ys) (y ∷ ys) (y ∷ put ys))) [
        | Less ↦ (less, all)
        | Equal ↦ all
        | Greater ↦ (all.0, all_put b ys less all.1)
      ]

  all_above : (y : Finding) (fs : List Finding) → finding_cmp f y ≡ Less → AllByRecursion (λ g. finding_cmp y g ≡ Less) fs → AllByRecursion (λ g. finding_cmp f g ≡ Less) fs
  all_above y [] less all = tt
  all_above y (g ∷ gs) less all = (total.trans f y g less all.0, all_above y gs less all.1)

  turned : (y : Finding) → finding_cmp f y ≡ Greater → finding_cmp y f ≡ Less
  turned y is = rw (total.antisymm y f) (rw is refl)

  sorted_by : (y : Finding) (ys : List Finding) → IsStrictlySortedBy finding_cmp (y ∷ ys) → IsStrictlySortedBy finding_cmp (put ys) → (o : Ordering) → finding_cmp f y ≡ o → IsStrictlySortedBy finding_cmp (match_ordering o (f ∷ y ∷ ys) (y ∷ ys) (y ∷ put ys))
  unfolding IsStrictlySortedBy
  sorted_by y ys sorted rest Less is = ((is, all_above y ys is sorted.0), sorted)
  sorted_by y ys sorted rest Equal is = sorted
  sorted_by y ys sorted rest Greater is = (all_put y ys (turned y is) sorted.0, rest)

  sorted_put : (fs : List Finding) → IsStrictlySortedBy finding_cmp fs → IsStrictlySortedBy finding_cmp (put fs)
  unfolding IsStrictlySortedBy
  sorted_put [] sorted = (tt, tt)
  sorted_put (y ∷ ys) sorted = sorted_by y ys sorted (sorted_put ys sorted.1) (finding_cmp f y) refl

abbrev all_in : List Finding → List Finding → List Finding
all_in gs fs = fold (insert_key finding_cmp) gs fs

from_fold : (fs gs : List Finding) (x : Finding) → Contains (all_in gs fs) x → Contains gs x ⊎ Contains fs x
from_fold [] gs x c = inl c
from_fold (f ∷ fs) gs x c =
    elim (from_fold fs (insert_key finding_cmp gs f) x c) [
      | inl h ↦ elim (first_or_later f gs x (from_put f gs x h)) [
        | inl same ↦ inr (subst (λ v. Contains (f ∷ fs) v) same (first f fs))
        | inr g ↦ inl g
      ]
      | inr h ↦ inr (later f fs x h)
    ]

into_fold : (fs gs : List Finding) (x : Finding) → Contains gs x ⊎ Contains fs x → Contains (all_in gs fs) x
into_fold [] gs x (inl c) = c
into_fold [] gs x (inr c) = absurd (nowhere x c)
into_fold (f ∷ fs) gs x (inl c) = into_fold fs (insert_key finding_cmp gs f) x (inl (into_put f gs x (later f gs x c)))
into_fold (f ∷ fs) gs x (inr c) =
    into_fold fs (insert_key finding_cmp gs f) x (elim (first_or_later f fs x c) [
      | inl same ↦ inl (into_put f gs x (subst (λ v. Contains (f ∷ gs) v) same (first f gs)))
      | inr h ↦ inr h
    ])

sorted_fold : (fs gs : List Finding) → IsStrictlySortedBy finding_cmp gs → IsStrictlySortedBy finding_cmp (all_in gs fs)
sorted_fold [] gs sorted = sorted
sorted_fold (f ∷ fs) gs sorted = sorted_fold fs (insert_key finding_cmp gs f) (sorted_put f gs sorted)

from_ascending_by : (fs : List Finding) (x : Finding) → Contains [] x ⊎ Contains fs x → Contains fs x
from_ascending_by fs x (inl c) = absurd (nowhere x c)
from_ascending_by fs x (inr c) = c

pub from_ascending : (fs : List Finding) (x : Finding) → Contains (ascending fs) x → Contains fs x
unfolding ascending
from_ascending fs x c = from_ascending_by fs x (from_fold fs [] x c)

pub into_ascending : (fs : List Finding) (x : Finding) → Contains fs x → Contains (ascending fs) x
unfolding ascending
into_ascending fs x c = into_fold fs [] x (inr c)

nothing_sorted : IsStrictlySortedBy finding_cmp []
unfolding IsStrictlySortedBy
nothing_sorted = tt

pub sorted_ascending : (fs : List Finding) → IsStrictlySortedBy finding_cmp (ascending fs)
unfolding ascending
sorted_ascending fs = sorted_fold fs [] nothing_sorted
