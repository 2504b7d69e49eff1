use Rattle.std.proofs.Common.{◌≡◌, ◌<◌, ◌^◌, take}
use Rattle.al_session_served.specs.Lines.{number_of}
use Rattle.al_session_served.proofs.line.numeral.Given as goal

abbrev pub invariant-loop-b : goal.invariant-loop-b
invariant-loop-b l = record {
  small : l.number < 10 ^ l.b-index;
  is_number : l.number ≡ number_of (take l.b-index l.word);
}
