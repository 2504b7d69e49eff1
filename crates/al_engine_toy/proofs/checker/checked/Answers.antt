use Rattle.std.proofs.Common.{◌≡◌, [], subst}
use Rattle.al_query.specs.Reads.{FromAnswers, Log}
use Rattle.al_query_outcome.specs.Results.{checked_model}
use Rattle.al_engine_toy.specs.Outcomes.{faulty}
use Rattle.al_engine_toy.specs.Toys.{AsksWell, IsChecked, IsJudged, header_in, is_marked, is_whole}
use Rattle.al_engine_toy.proofs.CheckResult.{other_is_checked, whole_is_checked}
use Rattle.al_engine_toy.proofs.JudgeLemmas.{asks_more}
use Rattle.al_engine_toy.proofs.Results.{on_ok}
use Rattle.al_engine_toy.proofs.checker.checked.Goals as goal

pub returns-then-is_whole-clause-checked : goal.returns-then-is_whole-clause-checked
returns-then-is_whole-clause-checked g c =
    let unit = c.args.unit.now in
    let text = c.args.text.now in
    let h = header_in text in
    let mid = c.is_whole.new.recorder.log in
    let log = c.judge.new.recorder.log in
    let b = c.in_ok-is_whole.is_whole in
    let whole = subst (λ (l : Log). FromAnswers l mid (λ t. b ≡ is_whole unit h t)) c.requires c.in_ok-is_whole.ensures.whole in
    let before = subst (λ (l : Log). AsksWell unit h l mid) c.requires c.in_ok-is_whole.ensures.asks in
    on_ok c.judge.result (λ x. IsJudged unit h (is_marked text) mid log (checked_model x)) (λ x. IsChecked unit text log (checked_model x))
    (λ x j. whole_is_checked unit text mid log (checked_model x) b whole c.if-is_whole.true before (asks_more unit h [] mid log before j.asks) j)
    c.judge.ensures.checked

pub returns-else-is_whole-clause-checked : goal.returns-else-is_whole-clause-checked
returns-else-is_whole-clause-checked g c =
    let unit = c.args.unit.now in
    let text = c.args.text.now in
    let h = header_in text in
    let log = c.is_whole.new.recorder.log in
    let b = c.in_ok-is_whole.is_whole in
    let whole = subst (λ (l : Log). FromAnswers l log (λ t. b ≡ is_whole unit h t)) c.requires c.in_ok-is_whole.ensures.whole in
    let asks = subst (λ (l : Log). AsksWell unit h l log) c.requires c.in_ok-is_whole.ensures.asks in
    on_ok c.faulty.result (λ x. checked_model x ≡ faulty unit) (λ x. IsChecked unit text log (checked_model x))
    (λ x is. other_is_checked unit text log (checked_model x) b whole c.if-is_whole.false asks is)
    c.faulty.ensures
