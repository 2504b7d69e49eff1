use Rattle.std.proofs.Common.{◌≡◌, false, map, take}
use Rattle.std.specs.List.{All}
use Rattle.al_link_image.specs.Images.{IsUnitName}
use Rattle.al_link.specs.Partitions.{compiled_units, some_large}
use Rattle.al_link.specs.Units.{unit_model}
use Rattle.al_link.proofs.linking.compiled.Given as goal

abbrev pub invariant-loop-unit : goal.invariant-loop-unit
invariant-loop-unit l = (map unit_model l.found.items ≡ compiled_units (take l.unit-index l.units)) × All (λ u. IsUnitName u.key.now.name) l.found.items × (some_large (take l.unit-index l.units) ≡ false)
