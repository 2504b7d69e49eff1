use Rattle.std.proofs.Common.{◌≡◌, ◌-◌, ◌≤◌, false, length, take}
use Rattle.std.specs.Io.KnownBytes.{Appends}
use Rattle.al_session_stream.proofs.writing.write_all.Given as goal

-- so much is written
abbrev pub invariant-loop-done : goal.invariant-loop-done
invariant-loop-done g l = record {
  in_range : l.done ≤ length l.bytes;
  adds : Appends (g.K.Sink.written l.fn.writer) (g.K.Sink.written l.writer) (take l.done l.bytes);
  faults : g.K.Sink.faults l.writer ≡ g.K.Sink.faults l.fn.writer;
  passed : l.done ≡ 0 → g.K.Sink.waits l.fn.writer ≡ false → g.K.Sink.waits l.writer ≡ false;
}

abbrev pub decreases-loop-done : goal.decreases-loop-done
decreases-loop-done g l = length l.bytes - l.done
