-- Places of keys in order.
use Rattle.std.proofs.Common.{◌≡◌, ℕ, ◌+◌, ◌<◌, ◌≤◌, ◌⊎◌, inl, inr, List, map, length, get_or, refl, sym, ap, ◌∙◌, arith}
use Rattle.std.specs.List.{Contains}
use Rattle.std.specs.List.Sorted.{IsStrictlySortedBy}
use Rattle.std.specs.Cmp.{IsTotalOrder, on_total, then_total, nat_cmp_total, tied_itself}
use Rattle.std.specs.Cmp.Lexicographic.{nat_list_cmp_total}
use Rattle.std.specs.Ordering.{nat_cmp, ordering_reverse}
use Rattle.std.specs.declared.cmp.Ordering.TheVariants.{Less, Equal, Greater}
use Rattle.std.proofs.lemmas.Bool.{cases_lt}
use Rattle.std.proofs.lemmas.List.{get_or-map}
use Rattle.std.proofs.lemmas.Map.Keys.{Less-from_sorted}
use Rattle.std.proofs.lemmas.Map.Lookups.{CmpEqualImpliesEq, exact_bytes, exact_pairs}
use Rattle.al_base.specs.Batch.{Key, key_of}
use Rattle.al_base.specs.declared.unit_key.UnitKey.{UnitKey}
use Rattle.al_base.specs.Files.{name_cmp}
use Rattle.al_base.specs.declared.unit_key.UnitKind.TheVariants.{Decl, Body, Sub}
use Rattle.al_unit_graph.specs.Orders.{kind_place, key_cmp}

kind_exact : CmpEqualImpliesEq (λ a b. nat_cmp (kind_place a) (kind_place b))
kind_exact Decl Decl is = refl
kind_exact Body Body is = refl
kind_exact Sub Sub is = refl
kind_exact Decl Body is = absurd (cc)
kind_exact Decl Sub is = absurd (cc)
kind_exact Body Decl is = absurd (cc)
kind_exact Body Sub is = absurd (cc)
kind_exact Sub Decl is = absurd (cc)
kind_exact Sub Body is = absurd (cc)

pub key_exact : CmpEqualImpliesEq key_cmp
key_exact = exact_pairs name_cmp (λ a b. nat_cmp (kind_place a) (kind_place b)) exact_bytes kind_exact

pub key_total : IsTotalOrder key_cmp
key_total = then_total (on_total (λ (k : Key). k.0) nat_list_cmp_total) (on_total (λ (k : Key). kind_place k.1) nat_cmp_total)

-- what is before `low` is less than the key, and what is from `high` on is greater
pub record IsNarrowed (ks : List Key) (k : Key) (low high : ℕ) : Type 0 where
  pub fits : low ≤ high
  pub within : high ≤ length ks
  pub below : (j : ℕ) → j < low → key_cmp (get_or ks j k) k ≡ Less
  pub above : (j : ℕ) → high ≤ j → j < length ks → key_cmp (get_or ks j k) k ≡ Greater

pub narrowed_start : (ks : List Key) (k : Key) → IsNarrowed ks k 0 (length ks)
narrowed_start ks k = record { fits = omega arith; within = omega arith; below = λ j l. absurd (omega (arith, l)); above = λ j l m. absurd (omega (arith, l, m)) }

below_too : (ks : List Key) (k : Key) (j m : ℕ) → IsStrictlySortedBy key_cmp ks → m < length ks → key_cmp (get_or ks m k) k ≡ Less → (j < m) ⊎ (m ≤ j) → j < m + 1 → key_cmp (get_or ks j k) k ≡ Less
below_too ks k j m sorted within is (inl l) h = key_total.trans (get_or ks j k) (get_or ks m k) k (Less-from_sorted key_cmp ks j m k sorted l within) is
below_too ks k j m sorted within is (inr l) h = let e : j ≡ m = omega arith in ap (λ (n : ℕ). key_cmp (get_or ks n k) k) e ∙ is

pub narrowed_low : (ks : List Key) (k : Key) (low high m : ℕ) → IsStrictlySortedBy key_cmp ks → IsNarrowed ks k low high → m < high → key_cmp (get_or ks m k) k ≡ Less → IsNarrowed ks k (m + 1) high
narrowed_low ks k low high m sorted n l is =
    let w = n.within in
    record { fits = omega arith; within = w; below = λ j h. below_too ks k j m sorted (omega arith) is (cases_lt j m) h; above = n.above }

above_too : (ks : List Key) (k : Key) (j m : ℕ) → IsStrictlySortedBy key_cmp ks → j < length ks → key_cmp (get_or ks m k) k ≡ Greater → (m < j) ⊎ (j ≤ m) → m ≤ j → key_cmp (get_or ks j k) k ≡ Greater
above_too ks k j m sorted within is (inl l) h =
    let before : key_cmp k (get_or ks m k) ≡ Less = key_total.antisymm k (get_or ks m k) ∙ ap ordering_reverse is in
    key_total.antisymm (get_or ks j k) k ∙ ap ordering_reverse (key_total.trans k (get_or ks m k) (get_or ks j k) before (Less-from_sorted key_cmp ks m j k sorted l within))
above_too ks k j m sorted within is (inr l) h = let e : j ≡ m = omega arith in ap (λ (n : ℕ). key_cmp (get_or ks n k) k) e ∙ is

pub narrowed_high : (ks : List Key) (k : Key) (low high m : ℕ) → IsStrictlySortedBy key_cmp ks → IsNarrowed ks k low high → low ≤ m → m < high → key_cmp (get_or ks m k) k ≡ Greater → IsNarrowed ks k low m
narrowed_high ks k low high m sorted n l h is =
    let w = n.within in
    record { fits = l; within = omega arith; below = n.below; above = λ j a b. above_too ks k j m sorted b is (cases_lt m j) a }

pub key_itself : (k : Key) → key_cmp k k ≡ Equal
key_itself k = tied_itself key_total k

pub narrowed_none : (ks : List Key) (k : Key) (low high : ℕ) → IsNarrowed ks k low high → high ≤ low → Contains ks k → ⊥
narrowed_none ks k low high n l (i, within, is) =
    let e : key_cmp (get_or ks i k) k ≡ Equal = ap (λ (j : Key). key_cmp j k) is ∙ key_itself k in
    elim (cases_lt i low) [
      | inl before ↦ let less = n.below i before in absurd (cc)
      | inr after ↦ let greater = n.above i (omega (arith, l, after)) within in absurd (cc)
    ]

pub key_at : (keys : List UnitKey) (m : ℕ) (x : UnitKey) (k : Key) → m < length keys → x ≡ get_or keys m x → get_or (map key_of keys) m k ≡ key_of x
key_at keys m x k within is = get_or-map key_of keys m x k within ∙ ap key_of (sym is)

pub equal_there : (a b : Key) → key_cmp a b ≡ Equal → a ≡ b
equal_there a b is = key_exact a b is
