use Rattle.std.proofs.Common.{◌≡◌, ◌++◌, take}
use Rattle.al_overload_readings.specs.Operations.{operations_named}
use Rattle.al_overload_readings.proofs.operation.add_named.Given as goal

abbrev pub invariant-loop-operation : goal.invariant-loop-operation
invariant-loop-operation l = l.views ≡ l.initial.views ++ operations_named l.name (take l.operation-index l.operations)
