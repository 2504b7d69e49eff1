use Rattle.std.proofs.Common.{◌≡◌, take}
use Rattle.std.specs.Prelude.{fold}
use Rattle.al_check_here.specs.PartsHere.{with_use}
use Rattle.al_check_here.proofs.parts.add_each.Given as goal

abbrev pub invariant-loop-clause : goal.invariant-loop-clause
invariant-loop-clause l = l.state ≡ fold with_use l.fn.state (take l.clause-index l.clauses)
