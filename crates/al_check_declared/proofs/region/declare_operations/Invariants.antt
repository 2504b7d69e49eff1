use Rattle.std.proofs.Common.{◌≡◌, length, take}
use Rattle.std.specs.Prelude.{fold}
use Rattle.al_check_declared.specs.ObjectRegions.{with_operation}
use Rattle.al_check_declared.proofs.region.declare_operations.Given as goal

abbrev pub invariant-loop-operation : goal.invariant-loop-operation
invariant-loop-operation l = (l.env ≡ fold with_operation l.fn.env (take l.operation-index l.operations)) × (length l.env.scope.regions ≡ length l.fn.env.scope.regions)
