use Rattle.std.proofs.Common.{◌≡◌, map, take, IsOk}
use Rattle.std.specs.List.{flat_map}
use Rattle.al_session_stream.specs.Output.{Adds}
use Rattle.al_base.specs.Batch.{finding_of}
use Rattle.al_folder.specs.Diagnostics.{told_text}
use Rattle.al_folder.proofs.diagnostics.emit_each.Given as goal

abbrev pub invariant-loop-diagnostic : goal.invariant-loop-diagnostic
invariant-loop-diagnostic g l = record {
  adds : Adds g.K.Sink.written g.K.Sink.faults g.K.Sink.waits l.fn.writer l.writer l.fn.so_far l.so_far
      (flat_map (told_text l.folders l.texts l.is_plain) (map finding_of (take l.diagnostic-index l.diagnostics)));
  room : IsOk l.so_far → IsOk l.fn.so_far × (g.K.Sink.faults l.writer ≡ g.K.Sink.faults l.fn.writer);
}
