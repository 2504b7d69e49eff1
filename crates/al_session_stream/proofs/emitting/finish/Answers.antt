use Rattle.std.proofs.Common.{◌∙◌, append-nil}
use Rattle.al_session_stream.proofs.Moments.{appends_keeps}
use Rattle.al_session_stream.proofs.emitting.finish.Goals as goal

pub returns-in-Ok-clause-adds : goal.returns-in-Ok-clause-adds
returns-in-Ok-clause-adds g c = λ start before wrote.
    let all = rw c.in_ok-so_far.was at wrote in (
      rw (append-nil before) (appends_keeps start.written (g.K.Sink.written c.args.writer.now) (g.K.Sink.written c.flush.new.self) before all.0 c.in-Ok.ensures.bytes),
      c.in-Ok.ensures.fault ∙ all.1,
      λ none passed. c.in-Ok.ensures.passed,
    )
