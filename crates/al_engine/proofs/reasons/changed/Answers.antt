use Rattle.std.proofs.Common.{◌≡◌, ◌∙◌, ℕ, List, Option, Some, None, MatchOption, ap, length, refl, slice_get, subst, sym}
use Rattle.al_query.specs.declared.answer.AnswerKind.{AnswerKind}
use Rattle.al_query.specs.declared.query.Query.{Query}
use Rattle.al_engine.proofs.ReasonLemmas.{first_set, none_set, set_there}
use Rattle.al_engine.specs.Reasons.{AreUnset}
use Rattle.al_engine.specs.declared.reasons.Change.{Change}
use Rattle.al_engine.proofs.reasons.changed.Goals as goal

-- what was found at a place of a log
abbrev IsFound : (Query → AnswerKind) → List (Query × AnswerKind) → ℕ → Option Change → Type 0
IsFound t log at found = MatchOption found (slice_get log at ≡ None) (λ c. (slice_get log at ≡ Some (c.query, c.before)) × (c.now ≡ t c.query))

pub returns-in_default : goal.returns-in_default
returns-in_default g c =
    let t = g.A.Answers.table c.args.asked.now in
    let log = c.args.held.now.entry.log in
    let marks = c.args.held.now.marks.now in
    let count : c.len-count.result ≡ length log = c.len-count.ensures ∙ ap length c.log-log.ensures in
    (refl, none_set t log marks c.requires (subst (λ (n : ℕ). AreUnset marks n) count c.in_default.ensures), count)

pub returns-in-Some-2 : goal.returns-in-Some-2
returns-in-Some-2 g c =
    let t = g.A.Answers.table c.args.asked.now in
    let log = c.args.held.now.entry.log in
    let marks = c.args.held.now.marks.now in
    let at = c.in-Some.at in
    let found = subst (λ (f : Option Change). IsFound t c.log-log.result.now at f) c.in-Some-2.is c.in_ok-change.ensures in
    (refl, first_set t log marks c.requires at c.in-Some.ensures.0 c.in-Some.ensures.1 c.in-Some-2.change (ap (λ l. slice_get l at) (sym c.log-log.ensures) ∙ found.0) found.1)

pub returns-in-None : goal.returns-in-None
returns-in-None g c =
    let t = g.A.Answers.table c.args.asked.now in
    let log = c.args.held.now.entry.log in
    let marks = c.args.held.now.marks.now in
    let at = c.in-Some.at in
    let found = subst (λ (f : Option Change). IsFound t c.log-log.result.now at f) c.in-None.is c.in_ok-change.ensures in
    absurd (set_there t log marks c.requires at c.in-Some.ensures.0 (ap (λ l. slice_get l at) (sym c.log-log.ensures) ∙ found))
