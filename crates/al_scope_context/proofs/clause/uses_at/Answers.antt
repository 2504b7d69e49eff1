use Rattle.std.proofs.Common.{◌∙◌, List, map, ap}
use Rattle.al_tree.specs.DeclarationViews.{compound_model}
use Rattle.al_tree.specs.declared.names.CompoundName.{CompoundName}
use Rattle.al_scope_context.specs.UsesAt.{added, opened_from, uses_at}
use Rattle.al_query.specs.declared.answer.UseClause.{UseClause}
use Rattle.al_scope_context.proofs.UsesSteps.{opened-first, opened-wrong}
use Rattle.al_scope_context.proofs.clause.uses_at.Goals as goal

pub returns-in-Some-clause-answered : goal.returns-in-Some-clause-answered
unfolding uses_at
returns-in-Some-clause-answered g c t h =
    let answered = c.in_ok-opened.ensures.answered t h in
    let names = c.args.clause.now.names in
    (answered.0, opened-wrong t c.args.scope.now c.args.packages.now c.args.clause.now.of_type (compound_model names.first) (map compound_model names.others.items) c.in_ok-opened.opened c.in_ok-fault.fault c.in-Some.fault answered.1 c.in_ok-fault.ensures.fault c.in-Some.is)

pub returns-clause-answered : goal.returns-clause-answered
unfolding uses_at
returns-clause-answered g c t h =
    let all = c.in_ok-all.ensures.answered t h in
    let answered = c.in_ok-opened.ensures.answered t all.0 in
    let names = c.args.clause.now.names in
    let of_type = c.args.clause.now.of_type in (
      answered.0,
      all.1
          ∙ ap (λ (ns : List CompoundName). opened_from t c.args.scope.now c.args.packages.now of_type c.add_clause.new.clauses (map compound_model ns)) c.as_slice-others.ensures.value
          ∙ opened-first t c.args.scope.now c.args.packages.now of_type (compound_model names.first) (map compound_model names.others.items) c.add_clause.new.clauses c.in_ok-opened.opened c.in_ok-fault.fault answered.1 c.in_ok-fault.ensures.fault c.in_default.is
          (c.in_ok-fault.ensures.added ∙ ap (λ (l : List UseClause). added l c.in_ok-opened.opened) c.empty-first.ensures),
    )
