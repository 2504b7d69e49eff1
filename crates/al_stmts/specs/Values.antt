-- How often the values of a type are chosen by ranges.
use Rattle.std.specs.Prelude.{ℕ, Bool, ◌&&◌, List, ℤ, ◌<ℤ◌, ◌≡◌, ◌≤ℤ◌, int_le}
use Rattle.std.specs.List.{AllPairs, count_by}
use Rattle.al_view.specs.declared.types.Bounds.{Bounds}

-- whether a value lies in a range (ARM 3.5(4)); none lies in one whose low bound is above its high bound
abbrev pub holds : Bounds → ℤ → Bool
holds b v = int_le b.low v && int_le v b.high

-- how many of the ranges a value lies in
abbrev pub times_chosen : List Bounds → ℤ → ℕ
times_chosen ranges v = count_by (λ r. holds r v) ranges

-- whether any value lies in a range
abbrev pub has_values : Bounds → Bool
has_values b = int_le b.low b.high

-- each range ends before the later ones begin
abbrev pub AreApart : List Bounds → Type 0
AreApart ranges = AllPairs (λ a b. a.high <ℤ b.low) ranges

-- the rest of some values, which lies after a range: it isn't empty, and what lies before it is not after the range
pub record IsRestAfter (range values rest : Bounds) : Type 0 where
  pub high : rest.high ≡ values.high
  pub some : rest.low ≤ℤ rest.high
  pub after : range.high <ℤ rest.low
  pub inside : values.low ≤ℤ rest.low
  pub before : (v : ℤ) → values.low ≤ℤ v → v <ℤ rest.low → v ≤ℤ range.high
