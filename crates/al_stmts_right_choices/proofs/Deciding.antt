-- The test decides.
use Rattle.std.proofs.Common.{◌≡◌, zero, suc, Bool, true, false, not, ◌&&◌, ◌||◌, List, [], ◌∷◌, length, refl, sym, arith}
use Rattle.std.specs.Prelude.{◌==◌, ◌↔◌, IsFalse}
use Rattle.std.specs.List.{list_all, list_any}
use Rattle.std.proofs.lemmas.Bool.{and_from, eqb-true, eq-eqb, false≢true, true≢false}
use Rattle.al_view.specs.declared.types.Bounds.{Bounds}
use Rattle.al_stmts.specs.Choosing.{AreRight, ChoosesRight, Covers, OthersIsAloneAndLast, covered_by, has_others, is_of_type, ranges_of}
use Rattle.al_stmts.specs.declared.choice.Choice.{Choice}
use Rattle.al_stmts.specs.declared.choice.Selector.{Selector}
use Rattle.al_stmts_right_choices.specs.ChoicesTest.{choices_right, chosen_once, covers, others_in_place, ranges_right, stays_within}
use Rattle.al_stmts_right_choices.specs.Laws.{TheTestDecides}
use Rattle.al_stmts_right_choices.proofs.Tests.{both_left, both_right, or_else, or_if}
use Rattle.al_stmts_right_choices.proofs.Onces.{chosen_once_if, once_chosen}
use Rattle.al_stmts_right_choices.proofs.Covering.{covering, covers_if, stays, stays_if}

not_true : (b : Bool) → not b ≡ true → b ≡ true → ⊥
not_true true h e = false≢true h
not_true false h e = false≢true e

others : (alts : List (List Choice)) → others_in_place alts ≡ true → OthersIsAloneAndLast alts
others [] h i lt e = absurd (omega arith)
others (a ∷ []) h zero lt e = (eqb-true (length a) 1 (or_else (has_others a) (length a == 1) h e), refl)
others (a ∷ []) h (suc i) lt e = absurd (omega arith)
others (a ∷ b ∷ more) h zero lt e = absurd (not_true (has_others a) (both_left (not (has_others a)) (others_in_place (b ∷ more)) h) e)
others (a ∷ b ∷ more) h (suc i) lt e =
    let k = others (b ∷ more) (both_right (not (has_others a)) (others_in_place (b ∷ more)) h) i (omega arith) e in (k.0, omega (arith, k.1))

others_if : (alts : List (List Choice)) → OthersIsAloneAndLast alts → others_in_place alts ≡ true
others_if [] h = refl
others_if (a ∷ []) h = or_if (has_others a) (length a == 1) (λ e. eq-eqb (length a) 1 (h zero (omega arith) e).0)
others_if (a ∷ b ∷ more) h =
    and_from (not (has_others a)) (others_in_place (b ∷ more)) (none (has_others a) (λ e. absurd (omega (arith, (h zero (omega arith) e).1))))
    (others_if (b ∷ more) (λ i lt e. let k = h (suc i) (omega arith) e in (k.0, omega (arith, k.1))))
  where
    none : (t : Bool) → (t ≡ true → ⊥) → not t ≡ true
    none true bare = absurd (bare refl)
    none false bare = refl

without_others : (o : Bool) (rs : List Bounds) (b : Bounds) → (o || covers rs b) ≡ true → IsFalse o → Covers rs b
without_others true rs b h bare = absurd (true≢false bare)
without_others false rs b h bare = covering rs b h

with_or_without : (o : Bool) (rs : List Bounds) (b : Bounds) → (IsFalse o → Covers rs b) → (o || covers rs b) ≡ true
with_or_without true rs b h = refl
with_or_without false rs b h = covers_if rs b (h refl)

ranges : (s : Selector) (o : Bool) (rs : List Bounds) → ranges_right s o rs ≡ true → ChoosesRight s o rs
ranges s o rs h =
    let later = both_right (chosen_once rs) (stays_within s rs && (o || covers rs (covered_by s))) h in
    record {
      once = once_chosen rs (both_left (chosen_once rs) (stays_within s rs && (o || covers rs (covered_by s))) h);
      within = stays s rs (both_left (stays_within s rs) (o || covers rs (covered_by s)) later);
      complete = without_others o rs (covered_by s) (both_right (stays_within s rs) (o || covers rs (covered_by s)) later);
    }

ranges_if : (s : Selector) (o : Bool) (rs : List Bounds) → ChoosesRight s o rs → ranges_right s o rs ≡ true
ranges_if s o rs right =
    and_from (chosen_once rs) (stays_within s rs && (o || covers rs (covered_by s))) (chosen_once_if rs right.once)
    (and_from (stays_within s rs) (o || covers rs (covered_by s)) (stays_if s rs right.within) (with_or_without o rs (covered_by s) right.complete))

abbrev of_type : List (List Choice) → Bool
of_type alts = list_all (list_all is_of_type) alts

abbrev in_ranges : Selector → List (List Choice) → Bool
in_ranges s alts = ranges_right s (list_any has_others alts) (ranges_of alts)

right_if : (s : Selector) (alts : List (List Choice)) → choices_right s alts ≡ true → AreRight s alts
right_if s alts h =
    let later = both_right (of_type alts) (others_in_place alts && in_ranges s alts) h in
    record {
      of_type = both_left (of_type alts) (others_in_place alts && in_ranges s alts) h;
      others = others alts (both_left (others_in_place alts) (in_ranges s alts) later);
      ranges = ranges s (list_any has_others alts) (ranges_of alts) (both_right (others_in_place alts) (in_ranges s alts) later);
    }

only_if : (s : Selector) (alts : List (List Choice)) → AreRight s alts → choices_right s alts ≡ true
only_if s alts right =
    and_from (of_type alts) (others_in_place alts && in_ranges s alts) right.of_type
    (and_from (others_in_place alts) (in_ranges s alts) (others_if alts right.others) (ranges_if s (list_any has_others alts) (ranges_of alts) right.ranges))

pub decides : TheTestDecides
decides s alts = (right_if s alts, only_if s alts)

-- two tests of one fact are one
pub same_test : {P : Type 0} (a b : Bool) → (a ≡ true) ↔ P → (b ≡ true) ↔ P → a ≡ b
same_test true b h k = sym (k.1 (h.0 refl))
same_test false true h k = h.1 (k.0 refl)
same_test false false h k = refl
