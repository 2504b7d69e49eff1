use Rattle.std.proofs.Common.{◌≡◌, ◌++◌, map, take}
use Rattle.std.specs.List.{flat_map}
use Rattle.al_unit_graph.specs.Traces.{mention_files}
use Rattle.al_unit_graph.specs.Views.{mention_model}
use Rattle.al_unit_graph.proofs.source.Sources.add_context_files.Given as goal

abbrev pub invariant-loop-mention : goal.invariant-loop-mention
invariant-loop-mention l = l.files.items ≡ l.initial.files.items ++ flat_map (mention_files l.self) (map mention_model (take l.mention-index l.mentions))
