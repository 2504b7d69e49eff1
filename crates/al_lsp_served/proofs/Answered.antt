-- The answers among messages.
use Rattle.std.proofs.Common.{◌≡◌, List, [], ◌∷◌, ◌++◌, ap, sym, ◌∙◌, append_assoc, append-nil}
use Rattle.serde_json.specs.Data.{Data}
use Rattle.al_lsp_messages.specs.Outgoing.{answered_id, answered_ids}
use Rattle.al_lsp_messages.specs.declared.outgoing.Outgoing.{Outgoing}

-- one message more
pub answered_push : (ms : List Outgoing) (m : Outgoing) → answered_ids (ms ++ m ∷ []) ≡ answered_ids ms ++ answered_id m
answered_push [] m = append-nil (answered_id m)
answered_push (x ∷ ms) m = ap (λ r. answered_id x ++ r) (answered_push ms m) ∙ sym (append_assoc (answered_id x) (answered_ids ms) (answered_id m))

-- .. that is no answer
pub answered_push_other : (ms : List Outgoing) (m : Outgoing) → answered_id m ≡ [] → answered_ids (ms ++ m ∷ []) ≡ answered_ids ms
answered_push_other ms m none = answered_push ms m ∙ ap (λ r. answered_ids ms ++ r) none ∙ append-nil (answered_ids ms)
