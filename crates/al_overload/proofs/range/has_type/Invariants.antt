use Rattle.std.proofs.Common.{◌≡◌, false, take}
use Rattle.al_overload.specs.Ranges.{has_type}
use Rattle.al_overload.proofs.range.has_type.Given as goal

abbrev pub invariant-loop-known : goal.invariant-loop-known
invariant-loop-known l = has_type (take l.known-index l.types) l.expected ≡ false
