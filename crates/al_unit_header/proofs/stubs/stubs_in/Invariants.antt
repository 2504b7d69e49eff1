use Rattle.std.proofs.Common.{◌≡◌, map, take}
use Rattle.al_tree.specs.StatementViews.{item_model, items_of}
use Rattle.al_unit_header.specs.Units.{stubs_in}
use Rattle.al_unit_header.proofs.stubs.stubs_in.Given as goal

abbrev pub invariant-loop-item : goal.invariant-loop-item
invariant-loop-item l = l.names.items ≡ stubs_in (items_of (map item_model (take l.item-index l.items)))
