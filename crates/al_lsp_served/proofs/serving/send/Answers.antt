use Rattle.std.proofs.Common.{◌∙◌}
use Rattle.al_lsp_served.proofs.Results.{on_ok}
use Rattle.al_lsp_served.proofs.Written.{appends_still}
use Rattle.al_lsp_served.proofs.serving.send.Goals as goal

pub returns-clause-written : goal.returns-clause-written
returns-clause-written g c =
    on_ok c.pass_on.result c.pass_on.ensures.written (λ none.
    appends_still (g.K.Sink.written c.args.sink.now) (g.K.Sink.written c.send_all.new.sink) (g.K.Sink.written c.pass_on.new.sink) c.args.messages.now c.in_ok-send_all.ensures.written none)
