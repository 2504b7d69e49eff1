use Rattle.std.proofs.Common.{subst}
use Rattle.std.specs.Io.KnownBytes.{Appends}
use Rattle.al_lsp.specs.Frames.{frame_of}
use Rattle.al_lsp_served.proofs.Results.{on_ok}
use Rattle.al_lsp_served.proofs.Written.{writes_one}
use Rattle.al_lsp_served.proofs.serving.send_one.Goals as goal

pub returns-clause-written : goal.returns-clause-written
returns-clause-written g c =
    let before = g.K.Sink.written c.args.sink.now in
    let after = g.K.Sink.written c.write_frame.new.sink in
    on_ok c.write_frame.result c.write_frame.ensures.written (λ wrote.
    writes_one before after c.args.message.now c.in_ok-body.body.items c.in_ok-body.ensures (subst (λ b. Appends before after (frame_of b)) c.as_slice.ensures.value wrote))
