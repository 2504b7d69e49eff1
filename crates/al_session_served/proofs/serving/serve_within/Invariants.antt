use Rattle.std.proofs.Common.{◌≡◌, ℕ, false, List, [], length}
use Rattle.std.specs.Io.KnownBytes.{Appends}
use Rattle.al_session_stream.specs.Input.{moment, Reads}
use Rattle.al_session_served.specs.Library.{with_tick}
use Rattle.al_session_served.specs.Serving.{Calls}
use Rattle.al_session_served.proofs.Turns.{Reached}
use Rattle.al_session_served.proofs.serving.serve_within.Given as goal

-- what was taken of the input, and what was written for it
abbrev pub invariant-loop : goal.invariant-loop
invariant-loop g l = record {
  taken : List ℕ;
  done : List ℕ;
  reached : Reached (with_tick g.L.UnitLibrary.meaning l.tick) (g.L.UnitLibrary.state l.fn.library) (g.L.UnitLibrary.state l.library) taken done l.counter;
  reads : Reads (moment g.S.Source.ahead g.S.Source.faults g.S.Source.pulls l.fn.reader ([], l.fn.pulls)) (moment g.S.Source.ahead g.S.Source.faults g.S.Source.pulls l.reader l.buffer) taken (length taken);
  calls : Calls l.commands taken (g.S.Source.pulls l.fn.reader) (g.S.Source.pulls l.reader);
  written : Appends (g.K.Sink.written l.fn.writer) (g.K.Sink.written l.writer) done;
  no_fault : g.K.Sink.faults l.writer ≡ g.K.Sink.faults l.fn.writer;
  passed : g.K.Sink.waits l.fn.writer ≡ false → g.K.Sink.waits l.writer ≡ false;
}
