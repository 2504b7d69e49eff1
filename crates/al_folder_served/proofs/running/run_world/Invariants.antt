use Rattle.std.proofs.Common.{◌≡◌, ◌≤◌}
use Rattle.al_session_stream.specs.Output.{Adds}
use Rattle.al_folder_served.proofs.PartsOfRuns.{Goes}
use Rattle.al_folder_served.proofs.running.run_world.Given as goal

abbrev pub invariant-loop-part : goal.invariant-loop-part
invariant-loop-part g l = record {
  since_in : l.since ≤ l.pace.tick;
  goes : Goes l.pace.tick l.pace.steps l.fn.world (Adds g.O.Sink.written g.O.Sink.faults g.O.Sink.waits l.fn.screen.output.sink l.screen.output.sink l.fn.screen.output.so_far l.screen.output.so_far) l._part l.since l.left l.world;
  quiet : l.screen.error ≡ l.fn.screen.error;
  form : l.screen.form ≡ l.fn.screen.form;
}
