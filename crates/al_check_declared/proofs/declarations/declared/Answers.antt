use Rattle.std.proofs.Common.{Bool, ap, sym, ◌∙◌, if◌then◌else◌}
use Rattle.al_tree.specs.DeclarationViews.{common_model}
use Rattle.al_check_declared.specs.DeclarationsHere.{no_place, open_declared}
use Rattle.al_check_declared.proofs.Composed.{if_ok}
use Rattle.al_check_declared.proofs.declarations.declared.Goals as goal

pub returns-then-is_nowhere-clause-answered : goal.returns-then-is_nowhere-clause-answered
returns-then-is_nowhere-clause-answered g c =
    let s = c.args.state.now in
    if_ok c.no_place.result _ _
    (λ checked gone t h.
    (h, gone ∙ ap (λ (b : Bool). if b then no_place s else open_declared t s (common_model c.args.declaration.now)) (sym c.if-is_nowhere.true ∙ c.is_nowhere.ensures)))
    c.no_place.ensures

pub returns-clause-answered : goal.returns-clause-answered
returns-clause-answered g c =
    let s = c.args.state.now in
    if_ok c.open_declared.result _ _
    (λ checked answered t h.
    let read = answered t h in
    (read.0, read.1 ∙ ap (λ (b : Bool). if b then no_place s else open_declared t s (common_model c.args.declaration.now)) (sym c.if-is_nowhere.false ∙ c.is_nowhere.ensures)))
    c.open_declared.ensures.answered
