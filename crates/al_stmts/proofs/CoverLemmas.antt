-- Ranges that cover values, from the first to the last.
use Rattle.std.proofs.Common.{◌≡◌, ◌+◌, ◌-◌, ℕ, ◌<◌, ◌≤◌, ℤ, ◌≤ℤ◌, ◌<ℤ◌, Bool, true, false, cond, List, length, get_or, take, ap, sym, subst, ◌∙◌, refl, arith, ◌⊎◌, inl, inr}
use Rattle.std.specs.List.{All, AllPairs, AllWithin, HoldsAt}
use Rattle.std.proofs.lemmas.Bool.{cases_lt}
use Rattle.std.proofs.lemmas.Int.{ints, by_lt_z}
use Rattle.std.proofs.lemmas.List.{get_or_default}
use Rattle.std.proofs.lemmas.List.Elements.{AllWithin-more}
use Rattle.std.proofs.lemmas.List.Sums.{sum_by_more}
use Rattle.al_view.specs.declared.types.Bounds.{Bounds}
use Rattle.al_stmts.specs.Choosing.{Covers}
use Rattle.al_stmts.specs.Values.{AreApart, has_values, holds, times_chosen, IsRestAfter}
use Rattle.al_stmts.proofs.HoldsLemmas.{has_values_from, holds_from, holds_inside, holds_upto}
use Rattle.al_stmts.proofs.TimesLemmas.{chosen_at, chosen_more, none_between}

-- what a loop over the ranges keeps: those so far have all values before the missing ones, and reach none of these
pub record Sweeps (ranges : List Bounds) (whole missing : Bounds) (n : ℕ) : Type 0 where
  pub low : whole.low ≤ℤ missing.low
  pub some : missing.low ≤ℤ missing.high
  pub high : missing.high ≡ whole.high
  pub below : AllWithin (λ r. r.high <ℤ missing.low) ranges 0 n
  pub before : (v : ℤ) → whole.low ≤ℤ v → v <ℤ missing.low → 0 < times_chosen (take n ranges) v

lt_is_le : (a b : ℤ) → a <ℤ b → a ≤ℤ b
lt_is_le a b h = omega (arith, ints)

lt_le : (a b c : ℤ) → a <ℤ b → b ≤ℤ c → a <ℤ c
lt_le a b c h k = omega (arith, ints)

le_le : (a b c : ℤ) → a ≤ℤ b → b ≤ℤ c → a ≤ℤ c
le_le a b c h k = omega (arith, ints)

-- a number that is before a range is before those after it
before_later : (rs : List Bounds) (v : ℤ) (n : ℕ) (e : Bounds) → All (λ r. has_values r ≡ true) rs → AreApart rs → n < length rs → v <ℤ (get_or rs n e).low
    → AllWithin (λ r. v <ℤ r.low) rs n (length rs)
before_later rs v n e some apart lt first = λ k d from upto. by_place k d upto (cases_lt n k) from
  where
    by_place : (k : ℕ) (d : Bounds) → k < length rs → (n < k) ⊎ (k ≤ n) → n ≤ k → v <ℤ (get_or rs k d).low
    by_place k d upto (inl later) from =
        let P : Bounds → Type 0 = λ r. v <ℤ r.low in
        let env : v <ℤ (get_or rs n d).low = subst P (get_or_default rs n e d lt) first in
        lt_le _ _ _ env (le_le _ _ _ (has_values_from (get_or rs n d) (some n d lt)) (lt_is_le _ _ (apart n k d later upto)))
    by_place k d upto (inr same) from =
        let P : Bounds → Type 0 = λ r. v <ℤ r.low in
        let Q : ℕ → Type 0 = λ m. v <ℤ (get_or rs m d).low in
        let at : n ≡ k = omega arith in
        subst Q at (subst P (get_or_default rs n e d lt) first)

-- the first missing value is none that all cover
missing_is_wanted : (whole missing : Bounds) → whole.low ≤ℤ missing.low → missing.low ≤ℤ missing.high → missing.high ≡ whole.high → holds whole missing.low ≡ true
missing_is_wanted whole missing low some high =
    let P : ℤ → Type 0 = λ h. missing.low ≤ℤ h in
    holds_inside whole missing.low low (subst P high some)

-- a range begins after the first missing value
pub gap : (rs : List Bounds) (whole missing : Bounds) (n : ℕ) (e : Bounds) → All (λ r. has_values r ≡ true) rs → AreApart rs → Sweeps rs whole missing n
    → n < length rs → missing.low <ℤ (get_or rs n e).low → Covers rs whole → ⊥
gap rs whole missing n e some apart sweeps lt first covers =
    let none : times_chosen rs missing.low ≡ 0 = none_between rs missing.low n sweeps.below (before_later rs missing.low n e some apart lt first) in
    let one = covers missing.low (missing_is_wanted whole missing sweeps.low sweeps.some sweeps.high) in
    omega (arith, none, one)

-- no range is left
pub end_reached : (rs : List Bounds) (whole missing : Bounds) (n : ℕ) → Sweeps rs whole missing n → length rs ≤ n → Covers rs whole → ⊥
end_reached rs whole missing n sweeps all covers =
    let none : times_chosen rs missing.low ≡ 0 = none_between rs missing.low n sweeps.below (λ k d from upto. absurd (omega arith)) in
    let one = covers missing.low (missing_is_wanted whole missing sweeps.low sweeps.some sweeps.high) in
    omega (arith, none, one)

not_after : (a b : ℤ) → (a <ℤ b → ⊥) → b ≤ℤ a
not_after a b h = by_lt_z a b (λ k. absurd (h k)) (λ k. k)

-- a range reaches the last missing value
pub all_covered : (rs : List Bounds) (whole missing : Bounds) (n : ℕ) (e : Bounds) → Sweeps rs whole missing n → n < length rs
    → (missing.low <ℤ (get_or rs n e).low → ⊥) → missing.high ≤ℤ (get_or rs n e).high → Covers rs whole
all_covered rs whole missing n e sweeps lt first last = λ v inside.
    by_lt_z v missing.low
    (λ before. chosen_more rs v n (sweeps.before v (holds_from whole v inside) before))
    (λ from.
    let P : ℤ → Type 0 = λ h. v ≤ℤ h in
    let upto : v ≤ℤ missing.high = subst P (sym sweeps.high) (holds_upto whole v inside) in
    chosen_at rs v n e lt (holds_inside (get_or rs n e) v (le_le _ _ _ (not_after _ _ first) from) (le_le _ _ _ upto last)))

-- one more range
chosen_before : (rs : List Bounds) (v : ℤ) (n : ℕ) (e : Bounds) → n < length rs → 0 < times_chosen (take n rs) v → 0 < times_chosen (take (n + 1) rs) v
chosen_before rs v n e lt h = omega (arith, sum_by_more (λ r. cond (holds r v) 1 0) rs n e lt)

chosen_now : (rs : List Bounds) (v : ℤ) (n : ℕ) (e : Bounds) → n < length rs → holds (get_or rs n e) v ≡ true → 0 < times_chosen (take (n + 1) rs) v
chosen_now rs v n e lt h = omega (arith, sum_by_more (λ r. cond (holds r v) 1 0) rs n e lt, ap {B = ℕ} (λ t. cond t 1 0) h)

pub sweeps_on : (rs : List Bounds) (whole missing rest : Bounds) (n : ℕ) (e : Bounds) → Sweeps rs whole missing n → n < length rs
    → (missing.low <ℤ (get_or rs n e).low → ⊥) → IsRestAfter (get_or rs n e) missing rest → Sweeps rs whole rest (n + 1)
sweeps_on rs whole missing rest n e sweeps lt first left =
    let P : Bounds → Type 0 = λ r. r.high <ℤ rest.low in
    record {
      low = le_le _ _ _ sweeps.low left.inside;
      some = left.some;
      high = left.high ∙ sweeps.high;
      below = AllWithin-more (λ r. r.high <ℤ rest.low) rs 0 n (λ k d from upto. lt_le _ _ _ (sweeps.below k d from upto) left.inside) (λ d. subst P (get_or_default rs n e d lt) left.after);
      before = λ v from upto.
          by_lt_z v missing.low
          (λ before. chosen_before rs v n e lt (sweeps.before v from before))
          (λ after. chosen_now rs v n e lt (holds_inside (get_or rs n e) v (le_le _ _ _ (not_after _ _ first) after) (left.before v after upto)));
    }

-- nothing is covered yet
pub sweep_begins : (rs : List Bounds) (whole : Bounds) → has_values whole ≡ true → Sweeps rs whole whole 0
sweep_begins rs whole some = record {
  low = omega (arith, ints);
  some = has_values_from whole some;
  high = refl;
  below = λ k d from upto. absurd (omega arith);
  before = λ v from upto. absurd (impossible from upto);
}
  where
    impossible : {a b : ℤ} → a ≤ℤ b → b <ℤ a → ⊥
    impossible h k = omega (arith, ints)

-- nothing is to be covered
pub nothing_wanted : (rs : List Bounds) (whole : Bounds) → has_values whole ≡ false → Covers rs whole
nothing_wanted rs whole none v inside = absurd (impossible _ _ _ (holds_from whole v inside) (holds_upto whole v inside) (empty whole none))
  where
    empty : (r : Bounds) → has_values r ≡ false → r.high <ℤ r.low
    empty r h = grind (arith, ints)

    impossible : (a b c : ℤ) → a ≤ℤ b → b ≤ℤ c → c <ℤ a → ⊥
    impossible a b c h k l = omega (arith, ints)
