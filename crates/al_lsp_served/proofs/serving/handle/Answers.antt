use Rattle.std.proofs.Common.{[], ◌∷◌, ◌++◌, ap, subst, ◌∙◌}
use Rattle.serde_json.specs.Data.{null}
use Rattle.al_lsp_messages.specs.Incoming.{shape_of}
use Rattle.al_lsp_messages.specs.Outgoing.{answered_ids}
use Rattle.al_lsp_served.specs.Answers.{due_of}
use Rattle.al_lsp_served.specs.Pictures.{after_messages}
use Rattle.al_lsp_served.specs.Sent.{Writes}
use Rattle.al_lsp_served.proofs.serving.handle.Goals as goal

pub returns-clause-handles : goal.returns-clause-handles
returns-clause-handles g c = record {
  sent = c.take.new.out.items;
  writes = subst (Writes (g.K.Sink.written c.args.sink.now) (g.K.Sink.written c.send.new.sink)) c.as_slice.ensures.value c.in_ok-send.ensures.written;
  answers = λ d text is. c.in_ok-step.ensures.answers d text is ∙ ap (λ ms. answered_ids ms ++ due_of (shape_of d)) c.new-out.ensures.items;
  no_json = λ none. c.in_ok-step.ensures.no_json none ∙ ap (λ ms. answered_ids ms ++ null ∷ []) c.new-out.ensures.items;
  picture = λ name had was. c.in_ok-step.ensures.picture name had (ap (after_messages name had) c.new-out.ensures.items ∙ was);
}
