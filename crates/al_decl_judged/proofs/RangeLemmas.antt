-- Ranges and their values.
use Rattle.std.proofs.Common.{◌≡◌, ℤ, ◌+◌, ◌<◌, Bool, true, false, cond, not, Ok, Err, refl, arith}
use Rattle.std.specs.Prelude.{◌-ℤ◌, unsigned_abs, int_lt, int_le, is_ok}
use Rattle.std.proofs.lemmas.Int.{ints}
use Rattle.al_base_fault.specs.declared.fault.Fault.{Fault}
use Rattle.al_base_fault.specs.Faults.{fault_at}
use Rattle.al_base_fault.specs.declared.check_rule.CheckRule.TheVariants.{OutOfLimits}
use Rattle.al_view.specs.declared.types.Bounds.{Bounds}
use Rattle.al_view.proofs.SymbolLemmas.{and_both, both}
use Rattle.al_decl_judged.specs.declared.subtype_views.StaticRange.{StaticRange}
use Rattle.al_decl_judged.specs.TypeSubtypes.{fitted, is_null, is_within}
use Rattle.al_decl_judged.specs.Laws.{ConstraintsNarrow, IndexesLieInside}

le-trans : (a b c : ℤ) → int_le a b ≡ true → int_le b c ≡ true → int_le a c ≡ true
le-trans a b c h k = grind (arith, ints)

lt-not_le : (a b : ℤ) → int_lt b a ≡ true → int_le a b ≡ false
lt-not_le a b h = grind (arith, ints)

not_lt-le : (a b : ℤ) → int_lt b a ≡ false → int_le a b ≡ true
not_lt-le a b h = grind (arith, ints)

le-self : (a : ℤ) → int_le a a ≡ true
le-self a = grind (arith, ints)

near : (low high value : ℤ) → int_le low value ≡ true → int_le value high ≡ true → unsigned_abs (value -ℤ low) < unsigned_abs (high -ℤ low) + 1
near low high value h k = grind (arith, ints)

pub indexes_lie_inside : IndexesLieInside
indexes_lie_inside range value h =
    let parts = both (int_le range.low value) (int_le value range.high) h in
    at (is_null range) refl parts.0 parts.1
  where
    at : (b : Bool) → is_null range ≡ b → int_le range.low value ≡ true → int_le value range.high ≡ true → unsigned_abs (value -ℤ range.low) < cond b 0 (unsigned_abs (range.high -ℤ range.low) + 1)
    at true null low high =
        let through = le-trans range.low value range.high low high in
        let above = lt-not_le range.low range.high null in
        absurd (cc)
    at false some low high = near range.low range.high value low high

-- the bounds of a range that isn't null lie in it
inside_both : (n l h : Bool) (x : Bounds) (f g : Fault) → is_ok (cond n (Ok x) (cond (not l) (Err f) (cond (not h) (Err g) (Ok x)))) ≡ true → n ≡ false → (l ≡ true) × (h ≡ true)
inside_both true l h x f g ok some = absurd (cc)
inside_both false true true x f g ok some = (refl, refl)
inside_both false true false x f g ok some = absurd (cc)
inside_both false false h x f g ok some = absurd (cc)

right_if : (n l h : Bool) (x : Bounds) (f g : Fault) → (n ≡ false → (l ≡ true) × (h ≡ true)) → is_ok (cond n (Ok x) (cond (not l) (Err f) (cond (not h) (Err g) (Ok x)))) ≡ true
right_if true l h x f g both_in = refl
right_if false true true x f g both_in = refl
right_if false true false x f g both_in = let parts = both_in refl in absurd (cc)
right_if false false h x f g both_in = let parts = both_in refl in absurd (cc)

narrowed : (range : StaticRange) (within : Bounds) → is_ok (fitted range within) ≡ true → (value : ℤ) → is_within value range.bounds ≡ true → is_within value within ≡ true
narrowed range within ok value inside = at (is_null range.bounds) refl
  where
    at : (b : Bool) → is_null range.bounds ≡ b → is_within value within ≡ true
    at true null =
        let parts = both (int_le range.bounds.low value) (int_le value range.bounds.high) inside in
        let through = le-trans range.bounds.low value range.bounds.high parts.0 parts.1 in
        let above = lt-not_le range.bounds.low range.bounds.high null in
        absurd (cc)
    at false some =
        let parts = both (int_le range.bounds.low value) (int_le value range.bounds.high) inside in
        let ends = inside_both (is_null range.bounds) (is_within range.bounds.low within) (is_within range.bounds.high within) range.bounds (fault_at range.low OutOfLimits) (fault_at range.high OutOfLimits) ok some in
        let low = both (int_le within.low range.bounds.low) (int_le range.bounds.low within.high) ends.0 in
        let high = both (int_le within.low range.bounds.high) (int_le range.bounds.high within.high) ends.1 in
        and_both (int_le within.low value) (int_le value within.high)
        (le-trans within.low range.bounds.low value low.0 parts.0)
        (le-trans value range.bounds.high within.high parts.1 high.1)

fits : (range : StaticRange) (within : Bounds) → ((value : ℤ) → is_within value range.bounds ≡ true → is_within value within ≡ true) → is_ok (fitted range within) ≡ true
fits range within all =
    right_if (is_null range.bounds) (is_within range.bounds.low within) (is_within range.bounds.high within) range.bounds (fault_at range.low OutOfLimits) (fault_at range.high OutOfLimits)
    (λ some.
    let order = not_lt-le range.bounds.low range.bounds.high some in (
      all range.bounds.low (and_both (int_le range.bounds.low range.bounds.low) (int_le range.bounds.low range.bounds.high) (le-self range.bounds.low) order),
      all range.bounds.high (and_both (int_le range.bounds.low range.bounds.high) (int_le range.bounds.high range.bounds.high) order (le-self range.bounds.high)),
    ))

pub constraints_narrow : ConstraintsNarrow
constraints_narrow range within = (narrowed range within, fits range within)
