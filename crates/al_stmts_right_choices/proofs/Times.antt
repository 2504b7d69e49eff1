-- How often a value is chosen, range by range.
use Rattle.std.proofs.Common.{◌≡◌, ◌+◌, ◌≤◌, ℤ, Bool, true, false, not, ◌||◌, cond, List, [], ◌∷◌, refl, ap, ◌∙◌, arith}
use Rattle.std.specs.List.{list_all}
use Rattle.std.proofs.lemmas.List.Sums.{sum_by-cons}
use Rattle.al_view.specs.declared.types.Bounds.{Bounds}
use Rattle.al_stmts.specs.Values.{holds, times_chosen}
use Rattle.al_stmts_right_choices.proofs.Tests.{both_left, both_right, or_else}

pub times-cons : (r : Bounds) (rs : List Bounds) (v : ℤ) → times_chosen (r ∷ rs) v ≡ cond (holds r v) 1 0 + times_chosen rs v
times-cons r rs v = sum_by-cons (λ b. cond (holds b v) 1 0) r rs

pub times_yes : (r : Bounds) (rs : List Bounds) (v : ℤ) → holds r v ≡ true → times_chosen (r ∷ rs) v ≡ 1 + times_chosen rs v
times_yes r rs v h = times-cons r rs v ∙ ap (λ (b : Bool). cond b 1 0 + times_chosen rs v) h

pub times_no : (r : Bounds) (rs : List Bounds) (v : ℤ) → holds r v ≡ false → times_chosen (r ∷ rs) v ≡ times_chosen rs v
times_no r rs v h = let e : times_chosen (r ∷ rs) v ≡ 0 + times_chosen rs v = times-cons r rs v ∙ ap (λ (b : Bool). cond b 1 0 + times_chosen rs v) h in omega (arith, e)

pub no_fewer : (r : Bounds) (rs : List Bounds) (v : ℤ) → times_chosen rs v ≤ times_chosen (r ∷ rs) v
no_fewer r rs v = omega (arith, times-cons r rs v)

-- a range that has one value has another one
abbrev pub also : ℤ → ℤ → Bounds → Bool
also v w r = not (holds r v) || holds r w

-- a value that is held wherever another one is, is chosen as often at least
pub as_often : (rs : List Bounds) (v w : ℤ) → list_all (also v w) rs ≡ true → times_chosen rs v ≤ times_chosen rs w
as_often [] v w h = omega arith
as_often (r ∷ rs) v w h = case (holds r v) refl (as_often rs v w (both_right (also v w r) (list_all (also v w) rs) h))
  where
    case : (b : Bool) → holds r v ≡ b → times_chosen rs v ≤ times_chosen rs w → times_chosen (r ∷ rs) v ≤ times_chosen (r ∷ rs) w
    case true e later = omega (arith, later, times_yes r rs v e, times_yes r rs w (or_else (holds r v) (holds r w) (both_left (also v w r) (list_all (also v w) rs) h) e))
    case false e later = omega (arith, later, times_no r rs v e, no_fewer r rs w)
