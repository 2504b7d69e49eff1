use Rattle.std.proofs.Common.{◌≡◌, map, take}
use Rattle.al_base.specs.Batch.{key_of}
use Rattle.al_bind.specs.Numbers.{nodes_among}
use Rattle.al_bind.proofs.places.nodes_among.Given as goal

abbrev pub invariant-loop-key : goal.invariant-loop-key
invariant-loop-key l = map key_of l.nodes.items ≡ nodes_among l.sources (map key_of (take l.key-index l.keys))
