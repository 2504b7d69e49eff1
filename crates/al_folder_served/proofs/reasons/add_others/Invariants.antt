use Rattle.std.proofs.Common.{◌≡◌, fold, map, take}
use Rattle.al_base.specs.Batch.{key_of}
use Rattle.al_folder_served.specs.Reasons.{with_other}
use Rattle.al_folder_served.proofs.reasons.add_others.Given as goal

abbrev pub invariant-loop-key : goal.invariant-loop-key
invariant-loop-key l = map key_of l.found.items ≡ fold (with_other (key_of l.x)) (map key_of l.initial.found.items) (map key_of (take l.key-index l.keys))
