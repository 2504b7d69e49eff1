use Rattle.std.proofs.Common.{◌≡◌, ◌++◌, take}
use Rattle.al_scope_context.proofs.context.append_uses.Given as goal

abbrev pub invariant-loop-clause : goal.invariant-loop-clause
invariant-loop-clause l = l.uses ≡ l.fn.uses ++ take l.clause-index l.more
