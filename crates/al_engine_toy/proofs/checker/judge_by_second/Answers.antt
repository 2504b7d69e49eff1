use Rattle.std.proofs.Common.{◌≡◌, true, false, Some, ap, sym, ◌∙◌}
use Rattle.al_unit_graph.specs.Headers.{Header}
use Rattle.al_query.specs.Answers.{is_private_of, parent_of}
use Rattle.al_query.specs.Reads.{Log}
use Rattle.al_query.specs.declared.answer.AnswerKind.{AnswerKind}
use Rattle.al_query_outcome.specs.Results.{checked_model}
use Rattle.al_engine_toy.specs.Outcomes.{faulty, plain}
use Rattle.al_engine_toy.specs.Toys.{HasParent, IsJudged, another, by_private}
use Rattle.al_engine_toy.proofs.JudgeLemmas.{judged_two}
use Rattle.al_engine_toy.proofs.Results.{on_ok}
use Rattle.al_engine_toy.proofs.checker.judge_by_second.Goals as goal

pub returns-then-is_private-clause-checked : goal.returns-then-is_private-clause-checked
returns-then-is_private-clause-checked g c =
    let unit = c.args.unit.now in
    let first = c.args.first in
    let second = c.args.second.now in
    let marked = c.args.marked in
    let old = c.args.recorder.now.log in
    let log = c.ask_of.new.recorder.log in
    let b = c.in_ok-answer.answer in
    let private : is_private_of b ≡ true = sym c.is_private.ensures ∙ c.if-is_private.true in
    on_ok c.faulty.result (λ x. checked_model x ≡ faulty unit)
    (λ x. (h : Header) (a : AnswerKind) (before : Log) → HasParent unit h first a before old → another unit (parent_of a) ≡ Some second → IsJudged unit h marked before log (checked_model x))
    (λ x is h a before parent second_is. judged_two unit h marked first a before old parent second b log (checked_model x) second_is c.in_ok-answer.ensures.log c.in_ok-answer.ensures.answered (is ∙ sym (ap (by_private unit first marked) private)))
    c.faulty.ensures

pub returns-else-is_private-clause-checked : goal.returns-else-is_private-clause-checked
returns-else-is_private-clause-checked g c =
    let unit = c.args.unit.now in
    let first = c.args.first in
    let second = c.args.second.now in
    let marked = c.args.marked in
    let old = c.args.recorder.now.log in
    let log = c.ask_of.new.recorder.log in
    let b = c.in_ok-answer.answer in
    let private : is_private_of b ≡ false = sym c.is_private.ensures ∙ c.if-is_private.false in
    on_ok c.plain.result (λ x. checked_model x ≡ plain unit (Some first) marked)
    (λ x. (h : Header) (a : AnswerKind) (before : Log) → HasParent unit h first a before old → another unit (parent_of a) ≡ Some second → IsJudged unit h marked before log (checked_model x))
    (λ x is h a before parent second_is. judged_two unit h marked first a before old parent second b log (checked_model x) second_is c.in_ok-answer.ensures.log c.in_ok-answer.ensures.answered (is ∙ sym (ap (by_private unit first marked) private)))
    c.plain.ensures
