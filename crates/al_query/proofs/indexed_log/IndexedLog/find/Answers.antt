use Rattle.std.proofs.Common.{◌∙◌, ap, None, Some, option_copied, option_map}
use Rattle.al_query.specs.declared.answer.AnswerKind.{AnswerKind}
use Rattle.al_query.specs.declared.query.Query.{Query}
use Rattle.al_query.specs.Reads.{Log, recorded}
use Rattle.al_query.proofs.PlaceLemmas.{lent_at, recorded_at}
use Rattle.al_query.proofs.indexed_log.IndexedLog.find.Goals as goal

pub returns-in_err-at : goal.returns-in_err-at
returns-in_err-at c =
    let log = c.self.inside.answers.items in
    let q = c.args.query.now in
    ap option_copied c.from_residual.ensures
    ∙ recorded_at log c.self.inside.places.entries q None c.self.invariant c.in_err-at.ensures.value
    ∙ ap (λ (l : Log). recorded l q) c.self.view_is

pub returns-in_err-answer : goal.returns-in_err-answer
returns-in_err-answer c =
    let log = c.self.inside.answers.items in
    let q = c.args.query.now in
    let i = c.in_ok-at.at.now in
    ap option_copied c.from_residual-in_err-answer.ensures
    ∙ ap (option_map (λ (e : Query × AnswerKind). e.1)) (lent_at log c.deref.result.now i None c.deref.ensures.value c.in_err-answer.ensures.lookup)
    ∙ recorded_at log c.self.inside.places.entries q (Some i) c.self.invariant c.in_ok-at.ensures.value
    ∙ ap (λ (l : Log). recorded l q) c.self.view_is

pub returns : goal.returns
returns c =
    let log = c.self.inside.answers.items in
    let q = c.args.query.now in
    let i = c.in_ok-at.at.now in
    ap (option_map (λ (e : Query × AnswerKind). e.1)) (lent_at log c.deref.result.now i (Some c.in_ok-answer.field-0) c.deref.ensures.value c.in_ok-answer.ensures.lookup)
    ∙ recorded_at log c.self.inside.places.entries q (Some i) c.self.invariant c.in_ok-at.ensures.value
    ∙ ap (λ (l : Log). recorded l q) c.self.view_is
