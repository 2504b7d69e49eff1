use Rattle.std.proofs.Common.{refl, subst, ◌∙◌}
use Rattle.std.proofs.lemmas.List.{take_all}
use Rattle.al_lsp_served.specs.Sent.{Writes}
use Rattle.al_lsp_served.proofs.Written.{writes_none, writes_more}
use Rattle.al_lsp_served.proofs.serving.send_all.Goals as goal

pub loop-message-init : goal.loop-message-init
loop-message-init g c = record { faults = refl; written = writes_none (g.K.Sink.written c.args.sink.now) }

pub loop-message-preserved : goal.loop-message-preserved
loop-message-preserved g c = record {
  faults = c.in_ok-send_one.ensures.faults ∙ c.loop-message.invariant.faults;
  written = writes_more (g.K.Sink.written c.args.sink.now) (g.K.Sink.written c.loop-message.sink) (g.K.Sink.written c.send_one.new.sink) c.args.messages.now c.loop-message.message-index c.message-item.result c.loop-message-test.true c.message-item.is c.loop-message.invariant.written c.in_ok-send_one.ensures.written;
}

pub returns-clause-written : goal.returns-clause-written
returns-clause-written g c =
    subst (Writes (g.K.Sink.written c.args.sink.now) (g.K.Sink.written c.loop-message.sink)) (take_all c.loop-message.message-index c.args.messages.now c.loop-message-test.false) c.loop-message.invariant.written
