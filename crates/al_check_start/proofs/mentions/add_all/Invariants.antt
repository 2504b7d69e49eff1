use Rattle.std.proofs.Common.{◌≡◌, ◌++◌, take}
use Rattle.std.specs.List.{flat_map}
use Rattle.al_check_start.specs.Starts.{declarations}
use Rattle.al_check_start.proofs.mentions.add_all.Given as goal

abbrev pub invariant-loop-unit : goal.invariant-loop-unit
invariant-loop-unit l = l.units.items ≡ l.fn.units.items ++ flat_map (λ u. declarations u.name) (take l.unit-index l.named)
