use Rattle.std.proofs.Common.{map, take}
use Rattle.al_base.specs.Batch.{key_of}
use Rattle.al_bind.specs.Steps.{ArePlaced}
use Rattle.al_bind.proofs.edges.are_placed.Given as goal

abbrev pub invariant-loop-key : goal.invariant-loop-key
invariant-loop-key l = ArePlaced l.sources (map key_of l.places.keys.items) (map key_of (take l.key-index l.keys))
