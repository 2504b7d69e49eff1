use Rattle.std.proofs.Common.{◌≡◌, ℕ, ◌<◌, ◌≤◌, ◌+◌, ◌-◌, Some, length, slice_get}
use Rattle.al_link_image.specs.declared.parts.Region.{Region}
use Rattle.al_machine.proofs.regions.ended.Given as goal

abbrev pub invariant-loop-low : goal.invariant-loop-low
invariant-loop-low l = record {
  order : l.low ≤ l.high;
  within : l.high ≤ length l.regions;
  ended : (k : ℕ) (o : Region) → k < l.low → slice_get l.regions k ≡ Some o → o.address + o.words ≤ l.place;
}

abbrev pub decreases-loop-low : goal.decreases-loop-low
decreases-loop-low l = l.high - l.low
