use Rattle.std.proofs.Common.{◌≡◌, take, map}
use Rattle.al_link.specs.Kept.{kept_model}
use Rattle.al_link.specs.Partitions.{compiled_units}
use Rattle.al_link.proofs.kept.all_kept.Given as goal

abbrev pub invariant-loop-unit : goal.invariant-loop-unit
invariant-loop-unit l = map kept_model l.kept.items ≡ compiled_units (take l.unit-index l.units)
