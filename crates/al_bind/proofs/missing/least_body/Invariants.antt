use Rattle.std.proofs.Common.{◌≡◌, None, take, map}
use Rattle.std.specs.List.{flat_map}
use Rattle.al_base.specs.Batch.{key_of}
use Rattle.al_bind.specs.Missing.{least_of, missing_bodies}
use Rattle.al_bind.proofs.missing.least_body.Given as goal

abbrev pub invariant-loop-key : goal.invariant-loop-key
invariant-loop-key l = l.found ≡ least_of None (flat_map (missing_bodies l.sources) (map key_of (take l.key-index l.keys)))
