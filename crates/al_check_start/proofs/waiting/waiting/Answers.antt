use Rattle.std.proofs.Common.{◌∙◌, ap, sym}
use Rattle.al_tree.specs.UnitViews.{library_item_model}
use Rattle.al_tree.specs.declared.unit.LibraryItem.{LibraryItem}
use Rattle.al_check_start.specs.UnitsAt.{waiting}
use Rattle.al_check_start.proofs.Steps.{if_ok}
use Rattle.al_check_start.proofs.waiting.waiting.Goals as goal

pub returns-in-PackageBody-clause-answered : goal.returns-in-PackageBody-clause-answered
returns-in-PackageBody-clause-answered g c =
    if_ok c.left.result _ _
    (λ uncompleted answered t h. let known = answered t h in
    (known.0, known.1 ∙ ap (λ (i : LibraryItem). waiting t c.args.unit.now (library_item_model i) c.args.view.now) (sym c.in-PackageBody.is)))
    c.left.ensures.answered

pub returns-in-Body-clause-answered : goal.returns-in-Body-clause-answered
returns-in-Body-clause-answered g c =
    if_ok c.completion.result _ _
    (λ uncompleted is t h. (h, is ∙ ap (λ (i : LibraryItem). waiting t c.args.unit.now (library_item_model i) c.args.view.now) (sym c.in-Body.is)))
    c.completion.ensures

pub returns-in-Subunit-clause-answered : goal.returns-in-Subunit-clause-answered
returns-in-Subunit-clause-answered g c =
    if_ok c.completion-in-Subunit.result _ _
    (λ uncompleted is t h. (h, is ∙ ap (λ (i : LibraryItem). waiting t c.args.unit.now (library_item_model i) c.args.view.now) (sym c.in-Subunit.is)))
    c.completion-in-Subunit.ensures

pub returns-in-Subprogram-clause-answered : goal.returns-in-Subprogram-clause-answered
returns-in-Subprogram-clause-answered g c t h =
    (h, c.new.ensures ∙ ap (λ (i : LibraryItem). waiting t c.args.unit.now (library_item_model i) c.args.view.now) (sym c.in-Subprogram.is))

pub returns-in-Package-clause-answered : goal.returns-in-Package-clause-answered
returns-in-Package-clause-answered g c t h =
    (h, c.new-in-Package.ensures ∙ ap (λ (i : LibraryItem). waiting t c.args.unit.now (library_item_model i) c.args.view.now) (sym c.in-Package.is))
