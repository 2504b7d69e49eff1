use Rattle.std.proofs.Common.{take}
use Rattle.al_engine.specs.Walks.{AreInOrder}
use Rattle.al_engine.proofs.walking.in_order.Given as goal

abbrev pub invariant-loop-unit : goal.invariant-loop-unit
invariant-loop-unit l = AreInOrder (take l.unit-index l.order) l.edits l.row.items
