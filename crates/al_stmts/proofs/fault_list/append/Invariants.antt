use Rattle.std.proofs.Common.{◌≡◌, ◌++◌, take}
use Rattle.al_stmts.proofs.fault_list.append.Given as goal

abbrev pub invariant-loop-fault : goal.invariant-loop-fault
invariant-loop-fault l = l.faults ≡ l.initial.faults ++ take l.fault-index l.more
