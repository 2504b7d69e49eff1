use Rattle.std.proofs.Common.{◌∙◌, ap, sym}
use Rattle.al_base.specs.declared.unit_key.UnitKey.{UnitKey}
use Rattle.al_query.specs.declared.query.Query.TheVariants.{Of}
use Rattle.al_check_start.proofs.Knowing.{asked-other, nothing-named, nothing-names_answered}
use Rattle.al_check_start.proofs.question.ask_another.Goals as goal

pub returns-clause-answered : goal.returns-clause-answered
returns-clause-answered g c t h =
    let answered = c.in_ok-answer.ensures.answered t h in
    let asked = ap (λ (u : UnitKey). t (Of u c.args.property)) (sym c.in_ok-unit.ensures) ∙ answered.1 in
    (answered.0, sym asked ∙ sym (asked-other t c.args.own.now c.args.unit.now c.args.property (sym c.is_unit.ensures ∙ c.if-is_unit.false)))

pub returns-then-is_unit-clause-named : goal.returns-then-is_unit-clause-named
returns-then-is_unit-clause-named g c known u h = absurd (nothing-named c.in_ok-nothing.nothing u c.in_ok-nothing.ensures h)

pub returns-then-is_unit-clause-names_answered : goal.returns-then-is_unit-clause-names_answered
returns-then-is_unit-clause-names_answered g c n h = absurd (nothing-names_answered c.in_ok-nothing.nothing n c.in_ok-nothing.ensures h)
