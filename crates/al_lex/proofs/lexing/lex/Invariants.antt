use Rattle.std.proofs.Common.{◌≡◌, ◌≤◌, ◌+◌, length}
use Rattle.al_lex.proofs.Cuts.{Completes}
use Rattle.al_lex.proofs.lexing.lex.Given as goal

-- What is cut off the rest, after the tokens so far, is cut off the text.
abbrev pub invariant-loop-rest : goal.invariant-loop-rest
invariant-loop-rest l = record {
  short : length l.text ≤ 4294967294;
  at : l.start + length l.rest ≡ length l.text;
  line : l.place.line ≤ 1 + l.start;
  column : l.place.col ≤ 1 + l.start;
  cut : Completes l.start l.place l.rest l.tokens.items l.text;
}

abbrev pub decreases-loop-rest : goal.decreases-loop-rest
decreases-loop-rest l = length l.rest
