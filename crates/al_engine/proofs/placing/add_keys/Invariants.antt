use Rattle.std.proofs.Common.{◌≡◌, ◌++◌, map, take}
use Rattle.al_base.specs.Batch.{key_of}
use Rattle.al_engine.proofs.placing.add_keys.Given as goal

abbrev pub invariant-loop-key : goal.invariant-loop-key
invariant-loop-key l = map key_of l.keys.items ≡ map key_of l.initial.keys.items ++ map key_of (take l.key-index l.more)
