use Rattle.std.proofs.Common.{Option, sym, ap, ◌∙◌}
use Rattle.std.specs.Prelude.{option_map}
use Rattle.al_tree.specs.DeclarationViews.{aspect_model}
use Rattle.al_tree.specs.declared.declaration.Aspect.{Aspect}
use Rattle.al_decl_protected.specs.Levels.{level_read}
use Rattle.al_decl_protected.proofs.Outcomes.{if_ok}
use Rattle.al_decl_protected.proofs.level.level_read.Goals as goal

pub returns-in-Some-clause-answered : goal.returns-in-Some-clause-answered
returns-in-Some-clause-answered g c =
    if_ok c.aspect_level.result _ _
    (λ level answered t h.
    let read = answered t h in
    let R = g.R.PartAnalyzer.reading c.args.analyzer.now t in
    (read.0, read.1 ∙ ap (λ (a : Option Aspect). level_read R c.args.scope.now c.args.usual (option_map aspect_model a)) (sym c.in-Some.is)))
    c.aspect_level.ensures.answered
