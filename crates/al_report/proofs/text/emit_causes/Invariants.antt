use Rattle.std.proofs.Common.{◌≡◌, take, IsOk}
use Rattle.al_session_stream.specs.Output.{Adds}
use Rattle.al_report.specs.Report.{causes_text}
use Rattle.al_report.proofs.text.emit_causes.Given as goal

abbrev pub invariant-loop-number : goal.invariant-loop-number
invariant-loop-number g l = record {
  adds : Adds g.K.Sink.written g.K.Sink.faults g.K.Sink.waits l.fn.writer l.writer l.fn.so_far l.so_far (causes_text l.mark (take l.number l.causes));
  room : IsOk l.so_far → IsOk l.fn.so_far × (g.K.Sink.faults l.writer ≡ g.K.Sink.faults l.fn.writer);
}
