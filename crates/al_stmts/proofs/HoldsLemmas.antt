-- Values in ranges.
use Rattle.std.proofs.Common.{◌≡◌, ◌&&◌, ℤ, ◌≤ℤ◌, ◌<ℤ◌, Bool, true, false, arith}
use Rattle.std.proofs.lemmas.Int.{ints}
use Rattle.al_view.specs.declared.types.Bounds.{Bounds}
use Rattle.al_stmts.specs.Values.{has_values, holds}

pub holds_inside : (r : Bounds) (v : ℤ) → r.low ≤ℤ v → v ≤ℤ r.high → holds r v ≡ true
holds_inside r v l h = grind (arith, ints)

pub holds_from : (r : Bounds) (v : ℤ) → holds r v ≡ true → r.low ≤ℤ v
holds_from r v h = grind (arith, ints)

pub holds_upto : (r : Bounds) (v : ℤ) → holds r v ≡ true → v ≤ℤ r.high
holds_upto r v h = grind (arith, ints)

pub none_before : (r : Bounds) (v : ℤ) → v <ℤ r.low → holds r v ≡ false
none_before r v h = grind (arith, ints)

pub none_after : (r : Bounds) (v : ℤ) → r.high <ℤ v → holds r v ≡ false
none_after r v h = grind (arith, ints)

-- what isn't in a range isn't in what lies within it
pub none_within : (r whole : Bounds) (v : ℤ) → whole.low ≤ℤ r.low → r.high ≤ℤ whole.high → holds whole v ≡ false → holds r v ≡ false
none_within r whole v l h out = grind (arith, ints)

pub has_values_from : (r : Bounds) → has_values r ≡ true → r.low ≤ℤ r.high
has_values_from r h = grind (arith, ints)

pub holds_low : (r : Bounds) → has_values r ≡ true → holds r r.low ≡ true
holds_low r h = grind (arith, ints)

pub holds_high : (r : Bounds) → has_values r ≡ true → holds r r.high ≡ true
holds_high r h = grind (arith, ints)
