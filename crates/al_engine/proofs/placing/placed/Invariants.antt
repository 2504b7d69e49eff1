use Rattle.std.proofs.Common.{map, take}
use Rattle.al_base.specs.Batch.{key_of}
use Rattle.al_engine.specs.Placed.{ArePlaced}
use Rattle.al_engine.proofs.placing.placed.Given as goal

abbrev pub invariant-loop-item : goal.invariant-loop-item
invariant-loop-item l = ArePlaced l.sources (map key_of (take l.item-index l.items)) (map key_of l.placed.items)
