use Rattle.std.proofs.Common.{◌≡◌, ◌++◌, map, take}
use Rattle.al_base.specs.Batch.{finding_of}
use Rattle.al_engine_refresh.proofs.finding.add_all.Given as goal

abbrev pub invariant-loop-d : goal.invariant-loop-d
invariant-loop-d l = map finding_of l.found.items ≡ map finding_of l.initial.found.items ++ map finding_of (take l.d-index l.more)
