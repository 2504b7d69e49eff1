use Rattle.std.proofs.Common.{◌≡◌, drop}
use Rattle.al_check_declared.specs.Barriers.{entry_among}
use Rattle.al_check_declared.proofs.entry.entry_among.Given as goal

abbrev pub invariant-loop-operation : goal.invariant-loop-operation
invariant-loop-operation l = entry_among (drop l.operation-index l.operations) ≡ entry_among l.operations
