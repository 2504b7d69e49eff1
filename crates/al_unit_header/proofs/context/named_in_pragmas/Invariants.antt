use Rattle.std.proofs.Common.{◌≡◌, map, take}
use Rattle.std.specs.List.{flat_map}
use Rattle.al_tree.specs.UnitViews.{context_model}
use Rattle.al_unit_header.specs.Units.{pragma_names}
use Rattle.al_unit_header.proofs.context.named_in_pragmas.Given as goal

abbrev pub invariant-loop-item : goal.invariant-loop-item
invariant-loop-item l = l.names.items ≡ flat_map (pragma_names l.word) (map context_model (take l.item-index l.context))
