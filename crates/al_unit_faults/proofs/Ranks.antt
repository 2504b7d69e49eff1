-- Ranks in an order of dependence.
use Rattle.std.proofs.Common.{◌≡◌, ℕ, zero, suc, ◌+◌, ◌<◌, ◌⊎◌, inl, inr, Bool, true, false, List, [], ◌∷◌, ◌++◌, length, if◌then◌else◌, refl, ap, subst, sym, ◌∙◌, add-one, arith}
use Rattle.std.specs.List.{Contains}
use Rattle.al_base.specs.Batch.{Key}
use Rattle.al_base_graph.proofs.Members.{nowhere, first, later, first_or_later}
use Rattle.al_unit_graph.specs.Headers.{Library}
use Rattle.al_unit_graph.specs.Dependence.{direct}
use Rattle.al_unit_graph.specs.Closures.{is_same_key}
use Rattle.al_unit_graph.proofs.BoolLemmas.{not_both}
use Rattle.al_unit_graph.proofs.ClosureLemmas.{same_key}
use Rattle.al_unit_faults.proofs.UnitLemmas.{told_same}
use Rattle.al_unit_faults.specs.OrderLaws.{AreRanked, rank_in}
use Rattle.al_unit_faults.specs.Reached.{is_faultless, IsDependenceOrder}

-- the list before a key, and after it
pub record Splits (ks : List Key) (key : Key) : Type 0 where
  pub before : List Key
  pub rest : List Key
  pub parts : ks ≡ before ++ key ∷ rest
  pub at : length before ≡ rank_in ks key

split_by : (k : Key) (ks : List Key) (key : Key) (b : Bool) → is_same_key k key ≡ b → (Contains ks key → Splits ks key) → Contains (k ∷ ks) key → Splits (k ∷ ks) key
split_by k ks key true is rest c = record { before = []; rest = ks; parts = ap (λ (x : Key). x ∷ ks) (same_key k key is); at = rw is refl }
split_by k ks key false is rest c =
    let r = rest (elim (first_or_later k ks key c) [ inl same ↦ absurd (not_both (is_same_key k key) (told_same k key same) is) | inr h ↦ h ]) in
    let n : suc (length r.before) ≡ 1 + rank_in ks key = let a = r.at in omega arith in
    record { before = k ∷ r.before; rest = r.rest; parts = ap (λ (xs : List Key). k ∷ xs) r.parts; at = rw is n }

pub split : (ks : List Key) (key : Key) → Contains ks key → Splits ks key
split [] key c = absurd (nowhere key c)
split (k ∷ ks) key c = split_by k ks key (is_same_key k key) refl (split ks key) c

-- a member of the first part has a rank below its length
rank_by : (k : Key) (ks more : List Key) (key : Key) (b : Bool) → is_same_key k key ≡ b → (Contains ks key → rank_in (ks ++ more) key < length ks) → Contains (k ∷ ks) key → rank_in (k ∷ ks ++ more) key < length (k ∷ ks)
rank_by k ks more key true is rest c = rw is (omega arith)
rank_by k ks more key false is rest c =
    let l = rest (elim (first_or_later k ks key c) [ inl same ↦ absurd (not_both (is_same_key k key) (told_same k key same) is) | inr h ↦ h ]) in
    let n : 1 + rank_in (ks ++ more) key < suc (length ks) = omega arith in
    rw is n

pub rank_below : (ks more : List Key) (key : Key) → Contains ks key → rank_in (ks ++ more) key < length ks
rank_below [] more key c = absurd (nowhere key c)
rank_below (k ∷ ks) more key c = rank_by k ks more key (is_same_key k key) refl (rank_below ks more key) c

length_split : (before rest : List Key) (key : Key) → length before < length (before ++ key ∷ rest)
length_split [] rest key = omega arith
length_split (b ∷ bs) rest key = let l = length_split bs rest key in omega arith

pub order_gives_ranks : (lib : Library) (order : List Key) → IsDependenceOrder lib order → AreRanked lib order
order_gives_ranks lib order is = record {
  bounded = λ key sound.
      let r = split order key ((is.all key).1 sound) in
      let l : length r.before < length order = subst (λ (ks : List Key). length r.before < length ks) (sym r.parts) (length_split r.before r.rest key) in
      subst (λ n. n < length order) r.at l;
  lower = λ key d sound too on.
      let r = split order key ((is.all key).1 sound) in
      let c = is.after r.before r.rest key d r.parts on too in
      let l : rank_in order d < length r.before = subst (λ (ks : List Key). rank_in ks d < length r.before) (sym r.parts) (rank_below r.before (key ∷ r.rest) d c) in
      subst (λ n. rank_in order d < n) r.at l;
}

-- and no other key does
below_by : (k : Key) (ks more : List Key) (key : Key) (b : Bool) → is_same_key k key ≡ b → (rank_in (ks ++ more) key < length ks → Contains ks key) → rank_in (k ∷ ks ++ more) key < length (k ∷ ks) → Contains (k ∷ ks) key
below_by k ks more key true is rest l = subst (λ (x : Key). Contains (k ∷ ks) x) (same_key k key is) (first k ks)
below_by k ks more key false is rest l =
    let here : 1 + rank_in (ks ++ more) key < length (k ∷ ks) = rw is at l in
    later k ks key (rest (omega arith))

pub below_rank : (ks more : List Key) (key : Key) → rank_in (ks ++ more) key < length ks → Contains ks key
below_rank [] more key l = absurd (omega (arith, l))
below_rank (k ∷ ks) more key l = below_by k ks more key (is_same_key k key) refl (below_rank ks more key) l

-- a key that isn't before its place
rank_at_by : (k : Key) (ks more : List Key) (key : Key) (b : Bool) → is_same_key k key ≡ b → ((Contains ks key → ⊥) → rank_in (ks ++ key ∷ more) key ≡ length ks) → (Contains (k ∷ ks) key → ⊥) → rank_in (k ∷ ks ++ key ∷ more) key ≡ length (k ∷ ks)
rank_at_by k ks more key true is rest new = absurd (new (subst (λ (x : Key). Contains (k ∷ ks) x) (same_key k key is) (first k ks)))
rank_at_by k ks more key false is rest new =
    let e = rest (λ c. new (later k ks key c)) in
    let n : 1 + rank_in (ks ++ key ∷ more) key ≡ length (k ∷ ks) = omega arith in
    rw is n

pub rank_at : (ks more : List Key) (key : Key) → (Contains ks key → ⊥) → rank_in (ks ++ key ∷ more) key ≡ length ks
rank_at [] more key new = let self = told_same key key refl in rw self refl
rank_at (k ∷ ks) more key new = rank_at_by k ks more key (is_same_key k key) refl (rank_at ks more key) new
