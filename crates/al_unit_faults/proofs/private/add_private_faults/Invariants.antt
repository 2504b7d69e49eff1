use Rattle.std.proofs.Common.{◌≡◌, ◌++◌, map, take}
use Rattle.std.specs.List.{flat_map}
use Rattle.al_base.specs.Batch.{finding_of}
use Rattle.al_unit_graph.specs.Views.{header_model, mention_model}
use Rattle.al_unit_faults.specs.Private.{private_faults}
use Rattle.al_unit_faults.proofs.private.add_private_faults.Given as goal

abbrev pub invariant-loop-mention : goal.invariant-loop-mention
invariant-loop-mention l =
    map finding_of l.found.items ≡ map finding_of l.initial.found.items ++ flat_map (private_faults l.sources l.file (header_model l.header)) (map mention_model (take l.mention-index l.header.mentions.items))
