use Rattle.std.proofs.Common.{◌≡◌, map, take}
use Rattle.std.specs.List.{flat_map}
use Rattle.al_tree.specs.UnitViews.{context_model}
use Rattle.al_unit_graph.specs.Views.{mention_model}
use Rattle.al_unit_header.specs.Units.{context_mentions, mention_of}
use Rattle.al_unit_header.proofs.context.mentions.Given as goal

abbrev pub invariant-loop-item : goal.invariant-loop-item
invariant-loop-item l = map mention_model l.mentions.items ≡ map mention_of (flat_map context_mentions (map context_model (take l.item-index l.context)))
