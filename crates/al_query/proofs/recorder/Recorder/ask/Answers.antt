use Rattle.std.proofs.Common.{◌≡◌, Some, sym, ◌∙◌, ap, is_ok, ◌++◌, ◌∷◌, [], if◌then◌else◌}
use Rattle.al_query.specs.Reads.{recorded}
use Rattle.al_query.proofs.LogLemmas.{agrees-recorded, agrees-push_is, agrees-pushed_if, handed_on}
use Rattle.al_query.proofs.KnownLemmas.{learns-recorded, learns-push_is}
use Rattle.al_query.proofs.ToldLemmas.{tells-recorded, tells-push_is}
use Rattle.al_query.proofs.recorder.Recorder.ask.Goals as goal

pub returns-in-Some-clause-answer : goal.returns-in-Some-clause-answer
returns-in-Some-clause-answer g c =
    let found : recorded c.self.inside.log c.args.query.now ≡ Some c.in-Some.answer.now = sym c.in-Some.ensures in
    let same : c.in_ok-answer.answer ≡ c.in-Some.answer.now = handed_on c.share.result c.in_ok-answer.answer c.in-Some.answer.now c.in_ok-answer.ensures.same c.share.ensures in
    rw (← c.self.view_is) (same ∙ sym (agrees-recorded (g.A.Answers.table c.self.inside.asked) c.self.inside.log c.args.query.now c.in-Some.answer.now c.self.invariant found))

pub returns-in-Some-clause-answered : goal.returns-in-Some-clause-answered
returns-in-Some-clause-answered g c =
    let found : recorded c.self.inside.log c.args.query.now ≡ Some c.in-Some.answer.now = sym c.in-Some.ensures in
    let same : c.in_ok-answer.answer ≡ c.in-Some.answer.now = handed_on c.share.result c.in_ok-answer.answer c.in-Some.answer.now c.in_ok-answer.ensures.same c.share.ensures in
    rw (← c.self.view_is) (λ t h. (h, agrees-recorded t c.self.inside.log c.args.query.now c.in-Some.answer.now h found ∙ sym same))

pub invariant_of-self-2 : goal.invariant_of-self-2
invariant_of-self-2 g c =
    let answer : c.in_ok-answer-2.answer ≡ g.A.Answers.table c.self.inside.asked c.args.query.now = handed_on c.ask.result c.in_ok-answer-2.answer (g.A.Answers.table c.self.inside.asked c.args.query.now) c.in_ok-answer-2.ensures.same c.ask.ensures in
    let kept : c.in_ok-kept.kept ≡ c.in_ok-answer-2.answer = handed_on c.share-2.result c.in_ok-kept.kept c.in_ok-answer-2.answer c.in_ok-kept.ensures.same c.share-2.ensures in
    let query : c.in_ok-query.query ≡ c.args.query.now = handed_on c.copy.result c.in_ok-query.query c.args.query.now c.in_ok-query.ensures.same c.copy.ensures in
    rw c.push.ensures
    (agrees-pushed_if (g.A.Answers.table c.self.inside.asked) c.self.inside.log c.args.query.now c.in_ok-query.query c.in_ok-kept.kept (is_ok c.push.result) query c.self.invariant (sym (kept ∙ answer)))

pub returns-clause-answered : goal.returns-clause-answered
returns-clause-answered g c =
    let kept : c.in_ok-kept.kept ≡ c.in_ok-answer-2.answer = handed_on c.share-2.result c.in_ok-kept.kept c.in_ok-answer-2.answer c.in_ok-kept.ensures.same c.share-2.ensures in
    let query : c.in_ok-query.query ≡ c.args.query.now = handed_on c.copy.result c.in_ok-query.query c.args.query.now c.in_ok-query.ensures.same c.copy.ensures in
    let pushed : c.push.new.self ≡ c.self.inside.log ++ (c.in_ok-query.query, c.in_ok-kept.kept) ∷ [] = c.push.ensures ∙ ap (λ r. if is_ok r then c.self.inside.log ++ (c.in_ok-query.query, c.in_ok-kept.kept) ∷ [] else c.self.inside.log) (sym c.in_ok-of.ensures.same) in
    rw (← c.self.view_is)
    (λ t h. agrees-push_is t c.self.inside.log c.push.new.self c.in_ok-query.query c.args.query.now c.in_ok-answer-2.answer c.in_ok-kept.kept pushed query kept h)

pub returns-in-Some-clause-learns : goal.returns-in-Some-clause-learns
returns-in-Some-clause-learns g c =
    let found : recorded c.self.inside.log c.args.query.now ≡ Some c.in-Some.answer.now = sym c.in-Some.ensures in
    let same : c.in_ok-answer.answer ≡ c.in-Some.answer.now = handed_on c.share.result c.in_ok-answer.answer c.in-Some.answer.now c.in_ok-answer.ensures.same c.share.ensures in
    rw (← c.self.view_is) (learns-recorded c.self.inside.log c.args.query.now c.in_ok-answer.answer c.in-Some.answer.now found same)

pub returns-clause-learns : goal.returns-clause-learns
returns-clause-learns g c =
    let kept : c.in_ok-kept.kept ≡ c.in_ok-answer-2.answer = handed_on c.share-2.result c.in_ok-kept.kept c.in_ok-answer-2.answer c.in_ok-kept.ensures.same c.share-2.ensures in
    let query : c.in_ok-query.query ≡ c.args.query.now = handed_on c.copy.result c.in_ok-query.query c.args.query.now c.in_ok-query.ensures.same c.copy.ensures in
    let pushed : c.push.new.self ≡ c.self.inside.log ++ (c.in_ok-query.query, c.in_ok-kept.kept) ∷ [] = c.push.ensures ∙ ap (λ r. if is_ok r then c.self.inside.log ++ (c.in_ok-query.query, c.in_ok-kept.kept) ∷ [] else c.self.inside.log) (sym c.in_ok-of.ensures.same) in
    rw (← c.self.view_is)
    (learns-push_is c.self.inside.log c.push.new.self c.in_ok-query.query c.args.query.now c.in_ok-answer-2.answer c.in_ok-kept.kept pushed query kept)

pub returns-in-Some-clause-tells : goal.returns-in-Some-clause-tells
returns-in-Some-clause-tells g c =
    let found : recorded c.self.inside.log c.args.query.now ≡ Some c.in-Some.answer.now = sym c.in-Some.ensures in
    let same : c.in_ok-answer.answer ≡ c.in-Some.answer.now = handed_on c.share.result c.in_ok-answer.answer c.in-Some.answer.now c.in_ok-answer.ensures.same c.share.ensures in
    tells-recorded c.self.inside.log c.args.query.now c.in_ok-answer.answer c.in-Some.answer.now found same

pub returns-clause-tells : goal.returns-clause-tells
returns-clause-tells g c =
    let kept : c.in_ok-kept.kept ≡ c.in_ok-answer-2.answer = handed_on c.share-2.result c.in_ok-kept.kept c.in_ok-answer-2.answer c.in_ok-kept.ensures.same c.share-2.ensures in
    let pushed : c.push.new.self ≡ c.self.inside.log ++ (c.in_ok-query.query, c.in_ok-kept.kept) ∷ [] = c.push.ensures ∙ ap (λ r. if is_ok r then c.self.inside.log ++ (c.in_ok-query.query, c.in_ok-kept.kept) ∷ [] else c.self.inside.log) (sym c.in_ok-of.ensures.same) in
    tells-push_is c.self.inside.log c.push.new.self c.in_ok-query.query c.in_ok-answer-2.answer c.in_ok-kept.kept pushed kept
