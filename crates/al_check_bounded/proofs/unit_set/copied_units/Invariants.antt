use Rattle.std.proofs.Common.{◌≡◌, take}
use Rattle.al_check_bounded.proofs.unit_set.copied_units.Given as goal

abbrev pub invariant-loop-unit : goal.invariant-loop-unit
invariant-loop-unit l = l.copy.items ≡ take l.unit-index l.units
