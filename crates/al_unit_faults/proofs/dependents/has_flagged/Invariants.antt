use Rattle.std.proofs.Common.{◌≡◌, false, map, take}
use Rattle.std.specs.List.{list_any}
use Rattle.al_base.specs.Batch.{key_of}
use Rattle.al_unit_faults.specs.Dependents.{is_flagged}
use Rattle.al_unit_faults.specs.Numbers.{numbers_model}
use Rattle.al_unit_faults.proofs.dependents.has_flagged.Given as goal

abbrev pub invariant-loop-key : goal.invariant-loop-key
invariant-loop-key l = list_any (is_flagged l.sources (numbers_model l.numbers) l.flags) (map key_of (take l.key-index l.keys)) ≡ false
