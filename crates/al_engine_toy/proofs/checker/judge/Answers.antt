use Rattle.std.proofs.Common.{◌≡◌, None, ap, sym, ◌∙◌}
use Rattle.al_query_outcome.specs.Results.{checked_model}
use Rattle.al_engine_toy.specs.Outcomes.{plain}
use Rattle.al_engine_toy.specs.Toys.{IsJudged, first_named, header_in, is_marked}
use Rattle.al_engine_toy.proofs.JudgeLemmas.{judged_none}
use Rattle.al_engine_toy.proofs.Results.{on_ok}
use Rattle.al_engine_toy.proofs.checker.judge.Goals as goal

pub returns-in-None-clause-checked : goal.returns-in-None-clause-checked
returns-in-None-clause-checked g c =
    let unit = c.args.unit.now in
    let text = c.args.text.now in
    let h = header_in text in
    let log = c.args.recorder.now.log in
    let none : first_named unit h ≡ None = sym c.in_ok-first_named.ensures ∙ c.in-None.is in
    on_ok c.plain.result (λ x. checked_model x ≡ plain unit None c.is_marked-marked.result)
    (λ x. IsJudged unit h (is_marked text) log log (checked_model x))
    (λ x is. judged_none unit h (is_marked text) log (checked_model x) none (is ∙ ap (plain unit None) c.is_marked-marked.ensures))
    c.plain.ensures
