use Rattle.std.proofs.Common.{◌≡◌, map, take, IsOk}
use Rattle.std.specs.List.{flat_map}
use Rattle.al_session_served.specs.Library.{file_unit_of}
use Rattle.al_session_stream.specs.Output.{Adds}
use Rattle.al_session_served.specs.Replies.{file_line}
use Rattle.al_session_served.proofs.pieces.emit_file_lines.Given as goal

abbrev pub invariant-loop-file : goal.invariant-loop-file
invariant-loop-file g l = record {
  adds : Adds g.K.Sink.written g.K.Sink.faults g.K.Sink.waits l.fn.writer l.writer l.fn.so_far l.so_far
      (flat_map file_line (map file_unit_of (take l.file-index l.files)));
  room : IsOk l.so_far → IsOk l.fn.so_far × (g.K.Sink.faults l.writer ≡ g.K.Sink.faults l.fn.writer);
}
