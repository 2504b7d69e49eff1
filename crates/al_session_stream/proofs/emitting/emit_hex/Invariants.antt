use Rattle.std.proofs.Common.{◌≡◌, ℕ, List, ◌++◌, IsOk}
use Rattle.std.specs.Slice.Iter.{chunks_rest, chunks_size}
use Rattle.al_session_stream.specs.Hexadecimal.{hex_lines}
use Rattle.al_session_stream.specs.Output.{Adds}
use Rattle.al_session_stream.proofs.emitting.emit_hex.Given as goal

-- so many lines are written, and the others are those of the bytes that are left
abbrev pub invariant-loop-line : goal.invariant-loop-line
invariant-loop-line g l = record {
  done : List ℕ;
  whole : done ++ hex_lines (chunks_rest l.line-iterator) ≡ hex_lines l.bytes;
  size : chunks_size l.line-iterator ≡ 32;
  room : IsOk l.so_far → IsOk l.fn.so_far × (g.K.Sink.faults l.writer ≡ g.K.Sink.faults l.fn.writer);
  adds : Adds g.K.Sink.written g.K.Sink.faults g.K.Sink.waits l.fn.writer l.writer l.fn.so_far l.so_far done;
}
