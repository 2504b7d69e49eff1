use Rattle.std.proofs.Common.{sym, ap, ◌∙◌}
use Rattle.al_decl.specs.Checking.{with_scope}
use Rattle.al_decl.specs.Inner.{in_region}
use Rattle.al_tree.specs.DeclarationViews.{protected_model}
use Rattle.al_decl_protected.specs.Checks.{left_inside, parts_model}
use Rattle.al_decl_protected.specs.Objects.{InsideTree, inside_after}
use Rattle.al_decl_protected.proofs.object.parts_at.Goals as goal

pub returns-in-Ok-Ok-clause-answered : goal.returns-in-Ok-Ok-clause-answered
returns-in-Ok-Ok-clause-answered g c t h =
    let env = c.args.env.now in
    let known = c.in-Ok-Ok.ensures.answered t h in
    let R = g.R.PartAnalyzer.reading c.args.analyzer.now t in (
      known.0,
      ap (left_inside c.check_inside.new.env.progress (parts_model c.check_inside.new.parts)) (sym c.in-Ok-Ok.field-0-is)
          ∙ known.1
          ∙ ap (λ (i : InsideTree). inside_after R t (with_scope env (in_region env.scope)) c.args.symbol.now i (protected_model c.args.object.now)) c.new-parts.ensures,
    )

pub returns-in-Ok-Err-clause-answered : goal.returns-in-Ok-Err-clause-answered
returns-in-Ok-Err-clause-answered g c t h =
    let env = c.args.env.now in
    let known = c.in-Ok-Err.ensures.answered t h in
    let R = g.R.PartAnalyzer.reading c.args.analyzer.now t in (
      known.0,
      ap (left_inside c.check_inside.new.env.progress (parts_model c.check_inside.new.parts)) (sym c.in-Ok-Err.field-0-is)
          ∙ known.1
          ∙ ap (λ (i : InsideTree). inside_after R t (with_scope env (in_region env.scope)) c.args.symbol.now i (protected_model c.args.object.now)) c.new-parts.ensures,
    )
