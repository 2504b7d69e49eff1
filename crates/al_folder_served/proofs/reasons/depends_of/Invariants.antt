use Rattle.std.proofs.Common.{◌≡◌, [], fold, map, take}
use Rattle.al_base.specs.Batch.{key_of}
use Rattle.al_folder_served.specs.Reasons.{with_part}
use Rattle.al_folder_served.proofs.reasons.depends_of.Given as goal

abbrev pub invariant-loop-part : goal.invariant-loop-part
invariant-loop-part l = map key_of l.found.items ≡ fold (with_part l.sources (key_of l.x)) [] (map key_of (take l.part-index l.parts))
