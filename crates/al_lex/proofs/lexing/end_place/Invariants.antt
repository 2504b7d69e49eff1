use Rattle.std.proofs.Common.{◌≤◌, ◌+◌, ◌-◌, List, length}
use Rattle.al_lex.specs.declared.token.Token.{Token}
use Rattle.al_lex.proofs.Cuts.{Completes}
use Rattle.al_lex.proofs.lexing.end_place.Given as goal

-- What is cut off the rest, after some tokens, is cut off the text.
abbrev pub invariant-loop-rest : goal.invariant-loop-rest
invariant-loop-rest l = record {
  short : length l.text ≤ 4294967294;
  within : length l.rest ≤ length l.text;
  line : l.place.line ≤ 1 + (length l.text - length l.rest);
  column : l.place.col ≤ 1 + (length l.text - length l.rest);
  cut : (sofar : List Token) × Completes (length l.text - length l.rest) l.place l.rest sofar l.text;
}

abbrev pub decreases-loop-rest : goal.decreases-loop-rest
decreases-loop-rest l = length l.rest
