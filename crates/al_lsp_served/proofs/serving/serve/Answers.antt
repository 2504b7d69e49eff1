use Rattle.std.proofs.Common.{[], Ok, subst, ◌∙◌}
use Rattle.al_session_stream.specs.Input.{moment}
use Rattle.al_lsp.specs.Frames.{ReadsFrame, ReadsBody}
use Rattle.al_lsp_served.specs.Sent.{Handles}
use Rattle.al_lsp_served.specs.Told.{told_of}
use Rattle.al_lsp_served.proofs.Turns.{serves_more}
use Rattle.al_lsp_served.proofs.serving.serve.Goals as goal

pub returns-in-Exit : goal.returns-in-Exit
returns-in-Exit g c =
    let at_first = moment g.S.Source.ahead g.S.Source.faults g.S.Source.pulls c.args.source.now ([], 4611686018427387904) in
    let before = moment g.S.Source.ahead g.S.Source.faults g.S.Source.pulls c.loop-turn.source c.loop-turn.buffer in
    let after = moment g.S.Source.ahead g.S.Source.faults g.S.Source.pulls c.read_frame.new.source c.read_frame.new.buffer in
    let told = told_of c.loop-turn.server.told in
    let told_after = told_of c.handle.new.server.told in
    let written = g.K.Sink.written c.loop-turn.sink in
    let written_after = g.K.Sink.written c.handle.new.sink in
    let read = subst (λ f. ReadsFrame 67108864 4096 before after (Ok f)) c.in-Body.is c.in_ok-body.ensures in
    let handled = subst (λ b. Handles b told told_after written written_after) c.as_slice.ensures.value c.in_ok-step-in-Body.ensures.handles in
    (after, serves_more 67108864 at_first before after (told_of c.args.server.now.told) told told_after (g.K.Sink.written c.args.sink.now) written written_after c.in-Body.body.items c.loop-turn.invariant.serves read handled)

pub loop-turn-preserved : goal.loop-turn-preserved
loop-turn-preserved g c =
    let at_first = moment g.S.Source.ahead g.S.Source.faults g.S.Source.pulls c.args.source.now ([], 4611686018427387904) in
    let before = moment g.S.Source.ahead g.S.Source.faults g.S.Source.pulls c.loop-turn.source c.loop-turn.buffer in
    let after = moment g.S.Source.ahead g.S.Source.faults g.S.Source.pulls c.read_frame.new.source c.read_frame.new.buffer in
    let told = told_of c.loop-turn.server.told in
    let told_after = told_of c.handle.new.server.told in
    let written = g.K.Sink.written c.loop-turn.sink in
    let written_after = g.K.Sink.written c.handle.new.sink in
    let read : ReadsBody 67108864 before after c.in-Body.body.items = subst (λ f. ReadsFrame 67108864 4096 before after (Ok f)) c.in-Body.is c.in_ok-body.ensures in
    let handled = subst (λ b. Handles b told told_after written written_after) c.as_slice.ensures.value c.in_ok-step-in-Body.ensures.handles in
    record {
      faults = read.reads.no_fault ∙ c.loop-turn.invariant.faults;
      pulls = read.reads.counted ∙ c.loop-turn.invariant.pulls;
      writes = c.in_ok-step-in-Body.ensures.faults ∙ c.loop-turn.invariant.writes;
      serves = serves_more 67108864 at_first before after (told_of c.args.server.now.told) told told_after (g.K.Sink.written c.args.sink.now) written written_after c.in-Body.body.items c.loop-turn.invariant.serves read handled;
    }
