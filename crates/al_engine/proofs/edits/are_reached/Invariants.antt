use Rattle.std.proofs.Common.{◌≡◌, map, take}
use Rattle.std.specs.List.{Contains}
use Rattle.al_base.specs.Batch.{Finding, finding_of}
use Rattle.al_engine.proofs.edits.are_reached.Given as goal

abbrev pub invariant-loop-diagnostic : goal.invariant-loop-diagnostic
invariant-loop-diagnostic l = (f : Finding) → Contains (map finding_of (take l.diagnostic-index l.found)) f → f.code ≡ 208 → ⊥
