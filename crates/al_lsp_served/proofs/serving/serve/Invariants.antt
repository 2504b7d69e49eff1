use Rattle.std.proofs.Common.{◌≡◌, ◌+◌, []}
use Rattle.al_session_stream.specs.Input.{moment}
use Rattle.al_lsp_served.specs.Sessions.{Serves}
use Rattle.al_lsp_served.specs.Told.{told_of}
use Rattle.al_lsp_served.proofs.serving.serve.Given as goal

abbrev pub invariant-loop-turn : goal.invariant-loop-turn
invariant-loop-turn g l = record {
  faults : g.S.Source.faults l.source ≡ g.S.Source.faults l.fn.source;
  pulls : g.S.Source.pulls l.source + l.buffer.1 ≡ g.S.Source.pulls l.fn.source + 4611686018427387904;
  writes : g.K.Sink.faults l.sink ≡ g.K.Sink.faults l.fn.sink;
  serves : Serves 67108864 (moment g.S.Source.ahead g.S.Source.faults g.S.Source.pulls l.fn.source ([], 4611686018427387904)) (moment g.S.Source.ahead g.S.Source.faults g.S.Source.pulls l.source l.buffer) (told_of l.fn.server.told) (told_of l.server.told) (g.K.Sink.written l.fn.sink) (g.K.Sink.written l.sink);
}
