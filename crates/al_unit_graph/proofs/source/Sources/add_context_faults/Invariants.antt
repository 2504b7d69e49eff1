use Rattle.std.proofs.Common.{◌≡◌, ◌++◌, map, take}
use Rattle.std.specs.List.{flat_map}
use Rattle.al_base.specs.Batch.{finding_of}
use Rattle.al_unit_graph.specs.FaultLists.{mention_faults}
use Rattle.al_unit_graph.specs.Views.{mention_model}
use Rattle.al_unit_graph.proofs.source.Sources.add_context_faults.Given as goal

abbrev pub invariant-loop-mention : goal.invariant-loop-mention
invariant-loop-mention l =
    (map finding_of l.found.items ≡ map finding_of l.initial.found.items ++ flat_map (mention_faults l.self l.file) (map mention_model (take l.mention-index l.mentions)))
    × (l.failures ≡ l.initial.failures)
