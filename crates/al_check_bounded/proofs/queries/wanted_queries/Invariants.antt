use Rattle.std.proofs.Common.{◌≡◌, take}
use Rattle.std.specs.List.{flat_map}
use Rattle.al_check_bounded.specs.Questions.{of_unit}
use Rattle.al_check_bounded.proofs.queries.wanted_queries.Given as goal

abbrev pub invariant-loop-unit : goal.invariant-loop-unit
invariant-loop-unit l = l.queries.items ≡ flat_map (of_unit l.wanted) (take l.unit-index l.wanted.units)
