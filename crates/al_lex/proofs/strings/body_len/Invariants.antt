use Rattle.std.proofs.Common.{◌≡◌, ◌≤◌, ◌-◌, length, drop}
use Rattle.al_lex.specs.Strings.{body_len}
use Rattle.al_lex.proofs.Bodies.{farther}
use Rattle.al_lex.proofs.strings.body_len.Given as goal

abbrev pub invariant-loop-i : goal.invariant-loop-i
invariant-loop-i l = record { in_range : l.i ≤ length l.bytes; goes_on : farther l.i (body_len (drop l.i l.bytes)) ≡ body_len l.bytes }

abbrev pub decreases-loop-i : goal.decreases-loop-i
decreases-loop-i l = length l.bytes - l.i
