use Rattle.std.proofs.Common.{◌≡◌, take, IsOk}
use Rattle.std.specs.List.{flat_map}
use Rattle.al_session_stream.specs.Output.{Adds}
use Rattle.al_folder_served.specs.Orders.{between}
use Rattle.al_folder_served.proofs.orders.emit_all_between.Given as goal

abbrev pub invariant-loop-name : goal.invariant-loop-name
invariant-loop-name g l = record {
  adds : Adds g.K.Sink.written g.K.Sink.faults g.K.Sink.waits l.fn.writer l.writer l.fn.so_far l.so_far
      (flat_map (between l.front l.back) (take l.name-index l.names));
  room : IsOk l.so_far → IsOk l.fn.so_far × (g.K.Sink.faults l.writer ≡ g.K.Sink.faults l.fn.writer);
}
