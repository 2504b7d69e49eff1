use Rattle.std.proofs.Common.{[], ◌∷◌, ◌++◌, ap, ◌∙◌}
use Rattle.al_lsp_messages.specs.Outgoing.{answered_ids}
use Rattle.al_lsp_served.specs.Pictures.{after_messages}
use Rattle.al_lsp_served.proofs.Answered.{answered_push}
use Rattle.al_lsp_served.proofs.Pictured.{after_push}
use Rattle.al_lsp_served.proofs.server.refuse_unknown.Goals as goal

pub returns-clause-answers : goal.returns-clause-answers
returns-clause-answers c =
    let old = c.args.out.now.items in
    ap answered_ids c.in_ok-push.ensures.items ∙ answered_push old _ ∙ ap (λ d. answered_ids old ++ d ∷ []) c.no_id-id.ensures

pub returns-clause-picture : goal.returns-clause-picture
returns-clause-picture c = λ name had. ap (after_messages name had) c.in_ok-push.ensures.items ∙ after_push name had c.args.out.now.items _
