use Rattle.std.proofs.Common.{ℕ, List, ◌++◌, subst}
use Rattle.std.specs.Prelude.{Option}
use Rattle.al_session_stream.specs.Output.{sink_moment, WritesReply}
use Rattle.al_session_served.specs.Replies.{image_reply}
use Rattle.al_session_served.proofs.reports.report_image.Goals as goal

pub returns-in-Some-clause-adds : goal.returns-in-Some-clause-adds
returns-in-Some-clause-adds g c = λ start before wrote.
    subst (λ (x : Option (List ℕ)). WritesReply start (sink_moment g.K.Sink.written g.K.Sink.faults g.K.Sink.waits c.emit_image.new.writer) (before ++ image_reply x) c.emit_image.result) c.in-Some.ensures (c.emit_image.ensures.adds start before wrote)

pub returns-in-None-clause-adds : goal.returns-in-None-clause-adds
returns-in-None-clause-adds g c = λ start before wrote.
    subst (λ (x : Option (List ℕ)). WritesReply start (sink_moment g.K.Sink.written g.K.Sink.faults g.K.Sink.waits c.emit_refusal.new.writer) (before ++ image_reply x) c.emit_refusal.result) c.in-None.ensures (c.emit_refusal.ensures.adds start before wrote)
