use Rattle.std.proofs.Common.{◌≡◌, take}
use Rattle.std.specs.List.{flat_map}
use Rattle.al_bind.specs.Missing.{least_of, missing_stub}
use Rattle.al_bind.proofs.missing.with_stubs.Given as goal

abbrev pub invariant-loop-stub : goal.invariant-loop-stub
invariant-loop-stub l = l.least ≡ least_of l.initial.least (flat_map (missing_stub l.sources l.name) (take l.stub-index l.stubs))
