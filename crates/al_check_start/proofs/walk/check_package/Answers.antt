use Rattle.std.proofs.Common.{ap, ◌∙◌}
use Rattle.al_tree.specs.UnitViews.{package_model}
use Rattle.al_stmts.specs.Steps.{Inside, Part, ended_by, inside_of, nothing}
use Rattle.al_stmts.specs.Walking.{end_of_compound}
use Rattle.al_stmts_text.proofs.Read.{if_ok, made_of}
use Rattle.al_check_start.proofs.walk.check_package.Goals as goal

pub returns-clause-answered : goal.returns-clause-answered
returns-clause-answered g c =
    let fault = end_of_compound (package_model c.args.declaration.now).name (package_model c.args.declaration.now).end.end_name in
    if_ok c.ended.result _ _
    (λ done is t h.
    let part = c.in_ok-part.ensures.answered t h in
    (part.0, made_of (λ (p : Part). ended_by (inside_of p nothing) fault) _ _ _ _ part.1 (is ∙ ap (λ (i : Inside). ended_by i fault) c.in_ok-inside.ensures)))
    c.ended.ensures
