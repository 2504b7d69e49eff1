use Rattle.std.proofs.Common.{◌≡◌, ◌≤◌, ◌+◌, ◌-◌, length, drop}
use Rattle.al_lex.specs.Numbers.{run_len}
use Rattle.al_lex.proofs.numbers.numeral_len.Given as goal

abbrev pub invariant-loop-i : goal.invariant-loop-i
invariant-loop-i l = record { in_range : l.i ≤ length l.bytes; goes_on : l.i + run_len l.digits (drop l.i l.bytes) ≡ run_len l.digits l.bytes }

abbrev pub decreases-loop-i : goal.decreases-loop-i
decreases-loop-i l = length l.bytes - l.i
