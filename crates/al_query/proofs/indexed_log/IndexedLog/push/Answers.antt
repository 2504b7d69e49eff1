use Rattle.std.proofs.Common.{◌≡◌, ◌∙◌, ap, sym, subst, None, length, ◌++◌, ◌∷◌, []}
use Rattle.al_query.specs.Reads.{Log, recorded}
use Rattle.al_query.proofs.PlaceLemmas.{indexed-pushed}
use Rattle.al_query.proofs.indexed_log.IndexedLog.push.Goals as goal

pub invariant_of-self-2 : goal.invariant_of-self-2
invariant_of-self-2 c =
    let log = c.self.inside.answers.items in
    let q = c.args.query in
    let lacks = subst (λ (l : Log). recorded l q ≡ None) (sym c.self.view_is) c.requires in
    indexed-pushed log c.push.new.self.items c.self.inside.places.entries c.insert.new.self.entries q c.in_ok-copy.field-0 c.args.answer c.len-at.result c.self.invariant lacks c.in_ok-copy.ensures
    (c.len-at.ensures ∙ ap length (sym c.self.view_is)) c.in_ok-insert.ensures.updates.0
    (c.in_ok-push.ensures.items ∙ ap (λ (l : Log). l ++ (q, c.args.answer) ∷ []) c.reserve.ensures.items)
