use Rattle.std.proofs.Common.{List, Result, ap, ◌∙◌}
use Rattle.al_base.specs.declared.unit_key.UnitKey.{UnitKey}
use Rattle.al_decl.specs.Regions.{in_regions}
use Rattle.al_base_fault.specs.declared.fault.Fault.{Fault}
use Rattle.al_query.specs.declared.answer.UseClause.{UseClause}
use Rattle.al_scope.specs.Places.{Place}
use Rattle.al_tree.specs.DeclarationViews.{use_model}
use Rattle.al_scope_context.specs.UsesAt.{used_in, uses_at}
use Rattle.al_check_here.specs.Standings.{with_here}
use Rattle.al_check_declared.specs.DeclarationsHere.{uses_read, uses_settled}
use Rattle.al_check_declared.proofs.Composed.{if_ok, place-is}
use Rattle.al_check_declared.proofs.declarations.use_clause.Goals as goal

pub returns-clause-answered : goal.returns-clause-answered
returns-clause-answered g c =
    if_ok c.settle_uses.result _ _
    (λ effects settled t h.
    let answered = c.in_ok-checked.ensures.answered t h in
    let s = c.args.state.now in
    let j = c.in_ok-checked.checked in
    let place = place-is c.use_at.new.scope (in_regions s.env.scope (used_in j s.env.scope.regions)) c.use_at.ensures.mentioned c.in_ok-checked.ensures.regions in (
      answered.0,
      settled
          ∙ ap (λ (p : Place). uses_settled (with_here s (record s.env { scope = p })) j) place
          ∙ ap (λ (x : Result (List UseClause) Fault). uses_read s x)
          (answered.1 ∙ ap (λ (ps : List UnitKey). uses_at t s.env.scope ps (use_model c.args.clause.now)) c.as_slice.ensures),
    ))
    c.settle_uses.ensures
