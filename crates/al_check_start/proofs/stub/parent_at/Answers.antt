use Rattle.std.proofs.Common.{◌∙◌, ap, sym}
use Rattle.al_base.specs.declared.unit_key.UnitKey.{UnitKey}
use Rattle.al_query.specs.Answers.{parent_of}
use Rattle.al_query.specs.declared.query.Property.TheVariants.{Parent}
use Rattle.al_query.specs.declared.query.Query.TheVariants.{Of}
use Rattle.al_check_start.proofs.stub.parent_at.Goals as goal

pub returns-clause-answered : goal.returns-clause-answered
returns-clause-answered g c t h =
    let answered = c.in_ok-answer.ensures.answered t h in
    (answered.0, c.in_ok-parent.ensures ∙ c.parent.ensures ∙ ap parent_of (sym answered.1 ∙ ap (λ (u : UnitKey). t (Of u Parent)) c.in_ok-unit.ensures))
