use Rattle.std.proofs.Common.{◌≡◌, take, IsOk}
use Rattle.std.specs.List.{flat_map}
use Rattle.al_session_stream.specs.Output.{Adds}
use Rattle.al_report.specs.Report.{note_line}
use Rattle.al_report.proofs.text.emit_notes.Given as goal

abbrev pub invariant-loop-note : goal.invariant-loop-note
invariant-loop-note g l = record {
  adds : Adds g.K.Sink.written g.K.Sink.faults g.K.Sink.waits l.fn.writer l.writer l.fn.so_far l.so_far
      (flat_map (λ note. note_line note.items) (take l.note-index l.notes));
  room : IsOk l.so_far → IsOk l.fn.so_far × (g.K.Sink.faults l.writer ≡ g.K.Sink.faults l.fn.writer);
}
