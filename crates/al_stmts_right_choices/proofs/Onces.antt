-- If a value is chosen twice, the low bound of a range is.
use Rattle.std.proofs.Common.{◌≡◌, ◌≤◌, ℤ, ◌≤ℤ◌, ◌<ℤ◌, Bool, true, false, not, ◌||◌, List, [], ◌∷◌, refl, ◌∙◌, arith, ◌⊎◌, inl, inr}
use Rattle.std.specs.Prelude.{int_le, nat_le}
use Rattle.std.specs.List.{list_all}
use Rattle.std.proofs.lemmas.Bool.{and_from, leb-true, le-leb}
use Rattle.std.proofs.lemmas.Int.{ints, by_lt_z}
use Rattle.al_view.specs.declared.types.Bounds.{Bounds}
use Rattle.al_stmts.specs.Values.{holds, times_chosen}
use Rattle.al_stmts.proofs.HoldsLemmas.{holds_from, holds_inside, holds_upto}
use Rattle.al_stmts_right_choices.specs.ChoicesTest.{chosen_once, is_once}
use Rattle.al_stmts_right_choices.proofs.Tests.{all_hold, all_weaker, both_left, both_right, or_else, or_if}
use Rattle.al_stmts_right_choices.proofs.Times.{also, as_often, times_no, times_yes}

-- the ranges that have the value begin at this one or before
abbrev from : ℤ → ℤ → Bounds → Bool
from v w r = not (holds r v) || int_le r.low w

le_true : (a b : ℤ) → a ≤ℤ b → int_le a b ≡ true
le_true a b h = grind (arith, ints)

true_le : (a b : ℤ) → int_le a b ≡ true → a ≤ℤ b
true_le a b h = grind (arith, ints)

le_le : (a b c : ℤ) → a ≤ℤ b → b ≤ℤ c → a ≤ℤ c
le_le a b c h k = omega (arith, ints)

le_self : (a : ℤ) → a ≤ℤ a
le_self a = omega (arith, ints)

lt_le : (a b : ℤ) → a <ℤ b → a ≤ℤ b
lt_le a b h = omega (arith, ints)

-- the greatest low bound of a range that has the value
record Greatest (rs : List Bounds) (v : ℤ) : Type 0 where
  at : ℤ
  passes : (p : ℤ → Bool) → list_all (λ r. p r.low) rs ≡ true → p at ≡ true
  below : at ≤ℤ v
  last : list_all (from v at) rs ≡ true

-- if it isn't chosen, no range has it
none_from : (rs : List Bounds) (v w : ℤ) → times_chosen rs v ≡ 0 → list_all (from v w) rs ≡ true
none_from [] v w h = refl
none_from (r ∷ rs) v w h = case (holds r v) refl (λ e. none_from rs v w e)
  where
    differ : holds r v ≡ false → holds r v ≡ true → ⊥
    differ x y = cc

    case : (b : Bool) → holds r v ≡ b → (times_chosen rs v ≡ 0 → list_all (from v w) rs ≡ true) → list_all (from v w) (r ∷ rs) ≡ true
    case true e more = absurd (omega (arith, times_yes r rs v e))
    case false e more =
        and_from (from v w r) (list_all (from v w) rs) (or_if (holds r v) (int_le r.low w) (λ held. absurd (differ e held)))
        (more (omega (arith, times_no r rs v e)))

later_low : (v a b : ℤ) → a ≤ℤ b → (rs : List Bounds) → list_all (from v a) rs ≡ true → list_all (from v b) rs ≡ true
later_low v a b h rs e =
    all_weaker (from v a) (from v b) (λ r k. or_if (holds r v) (int_le r.low b) (λ held. le_true r.low b (le_le r.low a b (true_le r.low a (or_else (holds r v) (int_le r.low a) k held)) h))) rs e

greatest : (rs : List Bounds) (v : ℤ) → (times_chosen rs v ≡ 0) ⊎ Greatest rs v
greatest [] v = inl refl
greatest (r ∷ rs) v = case (holds r v) refl (greatest rs v)
  where
    differ : holds r v ≡ false → holds r v ≡ true → ⊥
    differ x y = cc

    case : (b : Bool) → holds r v ≡ b → (times_chosen rs v ≡ 0) ⊎ Greatest rs v → (times_chosen (r ∷ rs) v ≡ 0) ⊎ Greatest (r ∷ rs) v
    case false e (inl none) = inl (times_no r rs v e ∙ none)
    case false e (inr g) = inr (record {
      at = g.at;
      passes = λ p h. g.passes p (both_right (p r.low) (list_all (λ s. p s.low) rs) h);
      below = g.below;
      last = and_from (from v g.at r) (list_all (from v g.at) rs) (or_if (holds r v) (int_le r.low g.at) (λ held. absurd (differ e held))) g.last;
    })
    case true e (inl none) = inr (record {
      at = r.low;
      passes = λ p h. both_left (p r.low) (list_all (λ s. p s.low) rs) h;
      below = holds_from r v e;
      last = and_from (from v r.low r) (list_all (from v r.low) rs) (or_if (holds r v) (int_le r.low r.low) (λ held. le_true r.low r.low (le_self r.low))) (none_from rs v r.low none);
    })
    case true e (inr g) = by_lt_z r.low g.at
        (λ before. inr (record {
          at = g.at;
          passes = λ p h. g.passes p (both_right (p r.low) (list_all (λ s. p s.low) rs) h);
          below = g.below;
          last = and_from (from v g.at r) (list_all (from v g.at) rs) (or_if (holds r v) (int_le r.low g.at) (λ held. le_true r.low g.at (lt_le r.low g.at before))) g.last;
        }))
        (λ after. inr (record {
          at = r.low;
          passes = λ p h. both_left (p r.low) (list_all (λ s. p s.low) rs) h;
          below = holds_from r v e;
          last = and_from (from v r.low r) (list_all (from v r.low) rs) (or_if (holds r v) (int_le r.low r.low) (λ held. le_true r.low r.low (le_self r.low))) (later_low v g.at r.low after rs g.last);
        }))

-- a value is chosen no more often than the greatest such low bound
at_greatest : (rs : List Bounds) (v : ℤ) (g : Greatest rs v) → times_chosen rs v ≤ times_chosen rs g.at
at_greatest rs v g = as_often rs v g.at
    (all_weaker (from v g.at) (also v g.at)
    (λ r k. or_if (holds r v) (holds r g.at)
    (λ held. holds_inside r g.at (true_le r.low g.at (or_else (holds r v) (int_le r.low g.at) k held)) (le_le g.at v r.high g.below (holds_upto r v held))))
    rs g.last)

pub once_chosen : (rs : List Bounds) → chosen_once rs ≡ true → (v : ℤ) → times_chosen rs v ≤ 1
once_chosen rs h v = case (greatest rs v)
  where
    case : (times_chosen rs v ≡ 0) ⊎ Greatest rs v → times_chosen rs v ≤ 1
    case (inl none) = omega (arith, none)
    case (inr g) = omega (arith, at_greatest rs v g, leb-true (times_chosen rs g.at) 1 (g.passes (λ w. nat_le (times_chosen rs w) 1) h))

pub chosen_once_if : (rs : List Bounds) → ((v : ℤ) → times_chosen rs v ≤ 1) → chosen_once rs ≡ true
chosen_once_if rs h = all_hold (is_once rs) (λ r. le-leb (times_chosen rs r.low) 1 (h r.low)) rs
