use Rattle.std.proofs.Common.{◌≡◌, ◌++◌, take}
use Rattle.std.specs.List.{flat_map}
use Rattle.al_scope.specs.UnitPlaces.{stub_units}
use Rattle.al_scope.proofs.mentions.add_stubs.Given as goal

abbrev pub invariant-loop-stub : goal.invariant-loop-stub
invariant-loop-stub l = l.units.items ≡ l.fn.units.items ++ flat_map stub_units (take l.stub-index l.stubs)
