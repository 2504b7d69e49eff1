use Rattle.std.proofs.Common.{List, ◌++◌, subst}
use Rattle.std.specs.Prelude.{Option}
use Rattle.al_base.specs.Batch.{Key}
use Rattle.al_session_stream.specs.Output.{sink_moment, WritesReply}
use Rattle.al_session_served.specs.Replies.{order_reply}
use Rattle.al_session_served.proofs.reports.report_order.Goals as goal

pub returns-in-Some-clause-adds : goal.returns-in-Some-clause-adds
returns-in-Some-clause-adds g c = λ start before wrote.
    subst (λ (x : Option (List Key)). WritesReply start (sink_moment g.K.Sink.written g.K.Sink.faults g.K.Sink.waits c.emit_order.new.writer) (before ++ order_reply x) c.emit_order.result) c.in-Some.ensures (c.emit_order.ensures.adds start before wrote)

pub returns-in-None-clause-adds : goal.returns-in-None-clause-adds
returns-in-None-clause-adds g c = λ start before wrote.
    subst (λ (x : Option (List Key)). WritesReply start (sink_moment g.K.Sink.written g.K.Sink.faults g.K.Sink.waits c.emit_refusal.new.writer) (before ++ order_reply x) c.emit_refusal.result) c.in-None.ensures (c.emit_refusal.ensures.adds start before wrote)
