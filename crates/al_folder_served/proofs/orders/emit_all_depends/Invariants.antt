use Rattle.std.proofs.Common.{◌≡◌, take, IsOk}
use Rattle.std.specs.List.{flat_map}
use Rattle.al_session_stream.specs.Output.{Adds}
use Rattle.al_folder_served.specs.Orders.{depends_line}
use Rattle.al_folder_served.proofs.orders.emit_all_depends.Given as goal

abbrev pub invariant-loop-key : goal.invariant-loop-key
invariant-loop-key g l = record {
  adds : Adds g.K.Sink.written g.K.Sink.faults g.K.Sink.waits l.fn.writer l.writer l.fn.so_far l.so_far
      (flat_map (depends_line l.item) (take l.key-index l.before));
  room : IsOk l.so_far → IsOk l.fn.so_far × (g.K.Sink.faults l.writer ≡ g.K.Sink.faults l.fn.writer);
}
