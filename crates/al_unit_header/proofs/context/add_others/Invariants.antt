use Rattle.std.proofs.Common.{◌≡◌, ◌++◌, map, take}
use Rattle.al_tree.specs.DeclarationViews.{compound_model}
use Rattle.al_unit_graph.specs.Views.{mention_model}
use Rattle.al_unit_header.specs.Units.{mention_of}
use Rattle.al_unit_header.proofs.context.add_others.Given as goal

abbrev pub invariant-loop-name : goal.invariant-loop-name
invariant-loop-name l = map mention_model l.mentions.items ≡ map mention_model l.initial.mentions.items ++ map mention_of (map compound_model (take l.name-index l.names))
