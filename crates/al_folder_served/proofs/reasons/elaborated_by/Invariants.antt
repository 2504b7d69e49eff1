use Rattle.std.proofs.Common.{◌≡◌, map, take}
use Rattle.std.specs.List.{flat_map}
use Rattle.al_base.specs.Batch.{key_of}
use Rattle.al_folder_served.specs.Reasons.{elaborated}
use Rattle.al_folder_served.proofs.reasons.elaborated_by.Given as goal

abbrev pub invariant-loop-part : goal.invariant-loop-part
invariant-loop-part l = l.found.items ≡ flat_map (elaborated l.sources) (map key_of (take l.part-index l.parts))
