use Rattle.std.proofs.Common.{◌≡◌, ◌∙◌, ◌∷◌, [], true, Option, is_some, ap, sym, subst, if◌then◌else◌}
use Rattle.al_base.specs.declared.unit_key.UnitKey.{UnitKey}
use Rattle.al_query_outcome.specs.ReadsLaw.{subunit}
use Rattle.al_query.specs.Answers.{own_view_of}
use Rattle.al_query.specs.Known.{body, has_unit}
use Rattle.al_query.specs.declared.query.Property.TheVariants.{Kind}
use Rattle.al_query.proofs.KnownLemmas.{has_unit-first, has_unit-right}
use Rattle.al_view.specs.declared.view.ViewKind.{ViewKind}
use Rattle.al_check_start.specs.Starts.{asked_of}
use Rattle.al_check_start.proofs.outward.parent_body_of.Goals as goal

pub returns-in-Some-clause-answered : goal.returns-in-Some-clause-answered
returns-in-Some-clause-answered g c t h =
    let answered = c.in_ok-answer.ensures.answered t h in
    let name = c.args.name.now in
    let is = c.in-Some.ensures ∙ ap own_view_of answered.1 ∙ ap (λ (u : UnitKey). own_view_of (asked_of t c.args.own.now u Kind)) c.in_ok-unit.ensures in
    (answered.0, c.in_ok-unit.ensures ∙ ap (λ (o : Option ViewKind). if is_some o then body name else subunit name) is)

pub returns-in_ok-unit-in-None-clause-answered : goal.returns-in_ok-unit-in-None-clause-answered
returns-in_ok-unit-in-None-clause-answered g c t h =
    let answered = c.in_ok-answer.ensures.answered t h in
    let name = c.args.name.now in
    let is = c.in-None.ensures ∙ ap own_view_of answered.1 ∙ ap (λ (u : UnitKey). own_view_of (asked_of t c.args.own.now u Kind)) c.in_ok-unit.ensures in
    (answered.0, c.in_ok-unit-in-None.ensures ∙ ap (λ (o : Option ViewKind). if is_some o then body name else subunit name) is)

pub returns-in-Some-clause-is : goal.returns-in-Some-clause-is
returns-in-Some-clause-is g c =
    let name = c.args.name.now in
    subst (λ (u : UnitKey). has_unit (body name ∷ subunit name ∷ []) u ≡ true) (sym c.in_ok-unit.ensures) (has_unit-first (body name) (subunit name ∷ []))

pub returns-in_ok-unit-in-None-clause-is : goal.returns-in_ok-unit-in-None-clause-is
returns-in_ok-unit-in-None-clause-is g c =
    let name = c.args.name.now in
    subst (λ (u : UnitKey). has_unit (body name ∷ subunit name ∷ []) u ≡ true) (sym c.in_ok-unit-in-None.ensures)
    (has_unit-right (body name ∷ []) (subunit name ∷ []) (subunit name) (has_unit-first (subunit name) []))
