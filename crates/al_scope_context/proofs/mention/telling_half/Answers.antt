use Rattle.std.proofs.Common.{◌∙◌, Bool, ap, sym, if◌then◌else◌}
use Rattle.al_base.specs.declared.unit_key.UnitKind.TheVariants.{Body, Decl}
use Rattle.al_scope_context.specs.Contexts.{is_nothing}
use Rattle.al_scope_context.proofs.mention.telling_half.Goals as goal

pub returns-then-is_nothing-clause-answered : goal.returns-then-is_nothing-clause-answered
returns-then-is_nothing-clause-answered g c t h =
    let answered = c.in_ok-answer.ensures.answered t h in
    let is = sym c.if-is_nothing.true ∙ c.is_nothing.ensures ∙ ap is_nothing (c.kind.ensures ∙ sym answered.1 ∙ ap t c.in_ok-query.ensures) in
    (answered.0, ap (λ (b : Bool). if b then Body else Decl) is)

pub returns-clause-answered : goal.returns-clause-answered
returns-clause-answered g c t h =
    let answered = c.in_ok-answer.ensures.answered t h in
    let is = sym c.if-is_nothing.false ∙ c.is_nothing.ensures ∙ ap is_nothing (c.kind.ensures ∙ sym answered.1 ∙ ap t c.in_ok-query.ensures) in
    (answered.0, ap (λ (b : Bool). if b then Body else Decl) is)
