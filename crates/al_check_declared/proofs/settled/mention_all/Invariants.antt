use Rattle.std.proofs.Common.{◌≡◌, take}
use Rattle.al_check_declared.specs.WholeHere.{with_own}
use Rattle.al_check_declared.proofs.settled.mention_all.Given as goal

abbrev pub invariant-loop-declaration : goal.invariant-loop-declaration
invariant-loop-declaration l = l.scope ≡ with_own l.unit_name l.fn.scope (take l.declaration-index l.own)
