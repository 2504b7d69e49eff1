use Rattle.std.proofs.Common.{◌≡◌, ◌++◌, take}
use Rattle.al_instr.specs.Lines.{shifted}
use Rattle.al_instr.proofs.lines.push_shifted.Given as goal

abbrev pub invariant-loop-one : goal.invariant-loop-one
invariant-loop-one l = l.lines.items ≡ l.initial.lines.items ++ shifted l.start (take l.one-index l.more)
