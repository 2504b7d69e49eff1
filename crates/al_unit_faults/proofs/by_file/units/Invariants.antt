use Rattle.std.proofs.Common.{◌≡◌, map, take}
use Rattle.al_unit_faults.specs.Units.{unit_model, unit_of_file}
use Rattle.al_unit_faults.proofs.by_file.units.Given as goal

abbrev pub invariant-loop-file : goal.invariant-loop-file
invariant-loop-file l = map unit_model l.units.items ≡ map (λ f. unit_of_file l.sources f.now) (take l.file-index l.file-items)
