use Rattle.std.proofs.Common.{◌≡◌, None, Some, ap, sym, ◌∙◌}
use Rattle.al_unit_graph.specs.Headers.{Header}
use Rattle.al_query.specs.Answers.{parent_of}
use Rattle.al_query.specs.Reads.{Log}
use Rattle.al_query.specs.declared.answer.AnswerKind.{AnswerKind}
use Rattle.al_query_outcome.specs.Results.{checked_model}
use Rattle.al_engine_toy.specs.Outcomes.{plain}
use Rattle.al_engine_toy.specs.Toys.{HasParent, IsJudged, another, first_named}
use Rattle.al_engine_toy.proofs.JudgeLemmas.{judged_one, parent_asked}
use Rattle.al_engine_toy.proofs.Results.{on_ok}
use Rattle.al_engine_toy.proofs.checker.judge_by_first.Goals as goal

pub returns-in-None-clause-checked : goal.returns-in-None-clause-checked
returns-in-None-clause-checked g c =
    let unit = c.args.unit.now in
    let first = c.args.first in
    let marked = c.args.marked in
    let old = c.args.recorder.now.log in
    let log = c.ask_of.new.recorder.log in
    let a = c.in_ok-answer.answer in
    let none : another unit (parent_of a) ≡ None = ap (another unit) (sym c.parent.ensures) ∙ sym c.in-None.ensures in
    on_ok c.plain.result (λ x. checked_model x ≡ plain unit (Some first) marked)
    (λ x. (h : Header) → first_named unit h ≡ Some first → IsJudged unit h marked old log (checked_model x))
    (λ x is h named.
    let parent = parent_asked unit h marked first named a old log c.in_ok-answer.ensures.log c.in_ok-answer.ensures.answered c.in_ok-answer.ensures.learns in
    judged_one unit h marked first a old log parent (checked_model x) none is)
    c.plain.ensures

pub returns-clause-checked : goal.returns-clause-checked
returns-clause-checked g c =
    let unit = c.args.unit.now in
    let first = c.args.first in
    let marked = c.args.marked in
    let old = c.args.recorder.now.log in
    let mid = c.ask_of.new.recorder.log in
    let log = c.judge_by_second.new.recorder.log in
    let second = c.in-Some.second.now in
    let a = c.in_ok-answer.answer in
    let second_is : another unit (parent_of a) ≡ Some second = ap (another unit) (sym c.parent.ensures) ∙ sym c.in-Some.ensures in
    on_ok c.judge_by_second.result
    (λ x. (h : Header) (b : AnswerKind) (before : Log) → HasParent unit h first b before mid → another unit (parent_of b) ≡ Some second → IsJudged unit h marked before log (checked_model x))
    (λ x. (h : Header) → first_named unit h ≡ Some first → IsJudged unit h marked old log (checked_model x))
    (λ x f h named. f h a old (parent_asked unit h marked first named a old mid c.in_ok-answer.ensures.log c.in_ok-answer.ensures.answered c.in_ok-answer.ensures.learns) second_is)
    c.judge_by_second.ensures.checked
