use Rattle.std.proofs.Common.{◌≡◌, take}
use Rattle.al_engine.proofs.planning.copied.Given as goal

abbrev pub invariant-loop-unit : goal.invariant-loop-unit
invariant-loop-unit l = l.copy.items ≡ take l.unit-index l.units
