use Rattle.std.proofs.Common.{◌≡◌, ◌++◌, take}
use Rattle.al_scope.specs.UnitPlaces.{lineages}
use Rattle.al_scope.proofs.mentions.add_lineages.Given as goal

abbrev pub invariant-loop-unit : goal.invariant-loop-unit
invariant-loop-unit l = l.names.items ≡ l.fn.names.items ++ lineages (take l.unit-index l.units)
