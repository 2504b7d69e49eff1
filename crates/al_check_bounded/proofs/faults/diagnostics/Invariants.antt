use Rattle.std.proofs.Common.{◌≡◌, map, take}
use Rattle.al_check_bounded.specs.Made.{fault_in}
use Rattle.al_check_bounded.proofs.faults.diagnostics.Given as goal

abbrev pub invariant-loop-fault : goal.invariant-loop-fault
invariant-loop-fault l = l.found ≡ map (fault_in l.unit) (take l.fault-index l.faults)
