use Rattle.std.proofs.Common.{◌≡◌, map, take}
use Rattle.al_base.specs.Batch.{key_of}
use Rattle.al_engine.specs.Placed.{subunits_among}
use Rattle.al_engine.proofs.placing.subunits_among.Given as goal

abbrev pub invariant-loop-key : goal.invariant-loop-key
invariant-loop-key l = l.found ≡ subunits_among (map key_of (take l.key-index l.keys))
