use Rattle.std.proofs.Common.{[], refl}
use Rattle.al_session_stream.specs.Output.{sink_moment}
use Rattle.al_session_stream.proofs.Moments.{appends_none}
use Rattle.al_lsp_served.proofs.serving.pass_on.Goals as goal

pub returns-clause-faults : goal.returns-clause-faults
returns-clause-faults g c =
    (c.in_ok-finish.ensures.adds (sink_moment g.K.Sink.written g.K.Sink.faults g.K.Sink.waits c.args.sink.now) [] (appends_none (g.K.Sink.written c.args.sink.now), refl, λ none still. still)).1

pub returns-clause-written : goal.returns-clause-written
returns-clause-written g c =
    (c.in_ok-finish.ensures.adds (sink_moment g.K.Sink.written g.K.Sink.faults g.K.Sink.waits c.args.sink.now) [] (appends_none (g.K.Sink.written c.args.sink.now), refl, λ none still. still)).0
