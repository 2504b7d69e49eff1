use Rattle.std.proofs.Common.{ap, ◌∙◌}
use Rattle.al_decl.specs.Inner.{in_region}
use Rattle.al_decl_judged.specs.declared.heading.Heading.{Heading}
use Rattle.al_tree.specs.DeclarationViews.{specification_model}
use Rattle.al_decl.specs.Heads.{filled}
use Rattle.al_decl.proofs.heading.heading_at.Goals as goal

pub returns-in-Ok-clause-answered : goal.returns-in-Ok-clause-answered
returns-in-Ok-clause-answered g c t h =
    let answered = c.in-Ok.ensures.answered t h in
    let R = g.R.PartAnalyzer.reading c.args.analyzer.now t in
    (answered.0, answered.1 ∙ ap (λ (x : Heading). filled R (in_region c.args.scope.now) (specification_model c.args.specification.now) x) c.in_ok-heading.ensures)
