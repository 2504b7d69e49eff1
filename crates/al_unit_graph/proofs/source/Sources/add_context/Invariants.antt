use Rattle.std.proofs.Common.{◌≡◌, ◌++◌, map, take}
use Rattle.std.specs.List.{flat_map}
use Rattle.al_base.specs.Batch.{key_of}
use Rattle.al_unit_graph.specs.Dependence.{mention_dependences}
use Rattle.al_unit_graph.specs.Views.{mention_model}
use Rattle.al_unit_graph.proofs.source.Sources.add_context.Given as goal

abbrev pub invariant-loop-mention : goal.invariant-loop-mention
invariant-loop-mention l =
    map key_of l.keys.items ≡ map key_of l.initial.keys.items ++ flat_map (mention_dependences l.self) (map mention_model (take l.mention-index l.mentions))
