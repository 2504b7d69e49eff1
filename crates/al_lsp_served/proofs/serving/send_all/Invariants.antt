use Rattle.std.proofs.Common.{◌≡◌, take}
use Rattle.al_lsp_served.specs.Sent.{Writes}
use Rattle.al_lsp_served.proofs.serving.send_all.Given as goal

abbrev pub invariant-loop-message : goal.invariant-loop-message
invariant-loop-message g l = record {
  faults : g.K.Sink.faults l.sink ≡ g.K.Sink.faults l.fn.sink;
  written : Writes (g.K.Sink.written l.fn.sink) (g.K.Sink.written l.sink) (take l.message-index l.messages);
}
