use Rattle.std.proofs.Common.{take}
use Rattle.al_check_bounded.specs.UnitLists.{AreAlike}
use Rattle.al_check_bounded.proofs.unit_set.index_of.Given as goal

abbrev pub invariant-loop-unit : goal.invariant-loop-unit
invariant-loop-unit l = AreAlike l.index.keys (take l.unit-index l.units)
