use Rattle.std.proofs.Common.{◌∙◌, ap}
use Rattle.al_tree.specs.DeclarationViews.{use_model}
use Rattle.al_base.specs.declared.unit_key.UnitKey.{UnitKey}
use Rattle.std.proofs.Common.{List, Result}
use Rattle.al_base_fault.specs.Judging.{map_ok}
use Rattle.al_base_fault.specs.declared.fault.Fault.{Fault}
use Rattle.al_query.specs.declared.answer.UseClause.{UseClause}
use Rattle.al_scope_context.specs.UsesAt.{uses_at}
use Rattle.al_scope_context.specs.Contexts.{with_uses}
use Rattle.al_scope_context.proofs.Steps.{used-item}
use Rattle.al_scope_context.proofs.context.add_use.Goals as goal

pub returns-clause-answered : goal.returns-clause-answered
returns-clause-answered g c t h =
    let answered = c.in_ok-clauses.ensures.answered t h in
    let start = c.args.context.now in
    let packages = ap (λ (ps : List UnitKey). uses_at t start.scope ps (use_model c.args.clause.now)) c.as_slice-packages.ensures in (
      answered.0,
      used-item start c.add_uses.new.uses c.in_ok-clauses.clauses c.in_ok-fault.fault c.in_ok-fault.ensures.uses c.in_ok-fault.ensures.fault
          ∙ ap (λ (r : Result (List UseClause) Fault). map_ok (with_uses start) r) (answered.1 ∙ packages),
    )
