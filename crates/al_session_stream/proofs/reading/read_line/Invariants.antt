use Rattle.std.proofs.Common.{ℕ, List, length}
use Rattle.al_session_stream.specs.Input.{moment, budget, Reads}
use Rattle.al_session_stream.specs.Reading.{IsLine}
use Rattle.al_session_stream.proofs.reading.read_line.Given as goal

-- what was read is a prefix of a line
abbrev pub invariant-loop-b : goal.invariant-loop-b
invariant-loop-b g l = record {
  bytes : List ℕ;
  is_line : IsLine bytes l.line;
  reads : Reads (moment g.S.Source.ahead g.S.Source.faults g.S.Source.pulls l.fn.source l.fn.buffer) (moment g.S.Source.ahead g.S.Source.faults g.S.Source.pulls l.source l.buffer) bytes (length bytes);
}

abbrev pub decreases-loop-b : goal.decreases-loop-b
decreases-loop-b g l = budget l.buffer
