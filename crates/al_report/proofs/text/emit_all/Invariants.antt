use Rattle.std.proofs.Common.{◌≡◌, take, IsOk}
use Rattle.std.specs.List.{flat_map}
use Rattle.al_session_stream.specs.Output.{Adds}
use Rattle.al_report.specs.Report.{noted_text}
use Rattle.al_report.proofs.text.emit_all.Given as goal

abbrev pub invariant-loop-noted : goal.invariant-loop-noted
invariant-loop-noted g l = record {
  adds : Adds g.K.Sink.written g.K.Sink.faults g.K.Sink.waits l.fn.writer l.writer l.fn.so_far l.so_far
      (flat_map (noted_text l.folders l.texts l.is_plain) (take l.noted-index l.told));
  room : IsOk l.so_far → IsOk l.fn.so_far × (g.K.Sink.faults l.writer ≡ g.K.Sink.faults l.fn.writer);
}
