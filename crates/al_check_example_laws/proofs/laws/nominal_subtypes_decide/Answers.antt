use Rattle.std.proofs.Common.{◌≡◌, ℕ, ℤ, pos, ◌<◌, ◌<ℤ◌, zero, suc, Bool, true, false, List, [], ◌∷◌, get_or, refl, arith}
use Rattle.std.proofs.lemmas.Int.{ints}
use Rattle.al_view.specs.declared.types.Bounds.{Bounds}
use Rattle.al_stmts.specs.Choosing.{OthersIsAloneAndLast}
use Rattle.al_stmts.specs.Values.{holds, times_chosen}
use Rattle.al_stmts.proofs.ApartLemmas.{apart_once}
use Rattle.al_check_example_laws.specs.NominalSubtypes.{between, one_and_two, subtype}
use Rattle.al_check_example_laws.proofs.laws.nominal_subtypes_decide.Goals as goal

abbrev ranges : List Bounds
ranges = between 1 1 ∷ between 2 2 ∷ []

below : pos 1 <ℤ pos 2
below = omega (arith, ints)

are_apart : (i j : ℕ) (d : Bounds) → i < j → j < 2 → (get_or ranges i d).high <ℤ (get_or ranges j d).low
are_apart zero zero d lt in' = absurd (omega arith)
are_apart zero (suc zero) d lt in' = below
are_apart zero (suc (suc j)) d lt in' = absurd (omega arith)
are_apart (suc i) zero d lt in' = absurd (omega arith)
are_apart (suc i) (suc zero) d lt in' = absurd (omega arith)
are_apart (suc i) (suc (suc j)) d lt in' = absurd (omega arith)

first_inside : (v : ℤ) → holds (between 1 1) v ≡ true → holds subtype v ≡ true
first_inside v h = grind (arith, ints)

second_inside : (v : ℤ) → holds (between 2 2) v ≡ true → holds subtype v ≡ true
second_inside v h = grind (arith, ints)

one_of_both : (v : ℤ) → holds subtype v ≡ true → holds (between 1 1) v ≡ false → holds (between 2 2) v ≡ false → ⊥
one_of_both v h a b = grind (arith, ints)

stays_within : (v : ℤ) → 0 < times_chosen ranges v → holds subtype v ≡ true
stays_within v some = go (holds (between 1 1) v) (holds (between 2 2) v) refl refl
  where
    go : (a b : Bool) → holds (between 1 1) v ≡ a → holds (between 2 2) v ≡ b → holds subtype v ≡ true
    go true b e f = first_inside v e
    go false true e f = second_inside v f
    go false false e f = let none : times_chosen ranges v ≡ 0 = rw (e, f) refl in absurd (omega arith)

is_chosen : (v : ℤ) → holds subtype v ≡ true → 0 < times_chosen ranges v
is_chosen v inside = go (holds (between 1 1) v) (holds (between 2 2) v) refl refl
  where
    go : (a b : Bool) → holds (between 1 1) v ≡ a → holds (between 2 2) v ≡ b → 0 < times_chosen ranges v
    go true true e f = let n : times_chosen ranges v ≡ 2 = rw (e, f) refl in omega arith
    go true false e f = let n : times_chosen ranges v ≡ 1 = rw (e, f) refl in omega arith
    go false true e f = let n : times_chosen ranges v ≡ 1 = rw (e, f) refl in omega arith
    go false false e f = absurd (one_of_both v inside e f)

pub returns-clause-cases : goal.returns-clause-cases
returns-clause-cases g = (
  record {
    of_type = refl;
    others = others;
    ranges = record { once = λ v. apart_once ranges v are_apart; within = stays_within; complete = λ no_others v inside. is_chosen v inside };
  },
  λ right. let three : 0 < 0 = right.ranges.complete refl (pos 3) refl in absurd (omega arith),
)
  where
    others : OthersIsAloneAndLast one_and_two
    others zero lt has = let no_ : false ≡ true = has in absurd (cc)
    others (suc zero) lt has = let no_ : false ≡ true = has in absurd (cc)
    others (suc (suc i)) lt has = absurd (omega arith)

pub returns-clause-assignments : goal.returns-clause-assignments
returns-clause-assignments g line labels place value bounds = rw bounds refl
