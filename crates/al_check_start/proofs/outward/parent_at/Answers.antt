use Rattle.std.proofs.Common.{◌≡◌, ◌∙◌, true, Some, ap, sym, subst}
use Rattle.al_base.specs.declared.unit_key.UnitKey.{UnitKey}
use Rattle.al_query.specs.Answers.{parent_of, units_named}
use Rattle.al_query.specs.Known.{has_unit}
use Rattle.al_check_start.proofs.Knowing.{parent-named}
use Rattle.al_check_start.proofs.outward.parent_at.Goals as goal

pub returns-in-Some-clause-answered : goal.returns-in-Some-clause-answered
returns-in-Some-clause-answered g c t h =
    let answered = c.in_ok-answer.ensures.answered t h in
    (answered.0, ap (λ (u : UnitKey). Some u) c.in_ok-copied_unit-in-Some.ensures ∙ c.in-Some.ensures ∙ ap parent_of answered.1)

pub returns-in-Some-clause-known : goal.returns-in-Some-clause-known
returns-in-Some-clause-known g c known =
    let copy = c.in_ok-copied_unit-in-Some.field-0 in
    let named = parent-named c.in_ok-answer.answer c.in-Some.parent.now (sym c.in-Some.ensures) in
    c.in_ok-answer.ensures.named known copy (subst (λ (u : UnitKey). has_unit (units_named c.in_ok-answer.answer) u ≡ true) (sym c.in_ok-copied_unit-in-Some.ensures) named)

pub returns-clause-answered : goal.returns-clause-answered
returns-clause-answered g c t h =
    let answered = c.in_ok-answer.ensures.answered t h in
    (answered.0, c.in-None.ensures ∙ ap parent_of answered.1)
