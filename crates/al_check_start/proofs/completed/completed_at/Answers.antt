use Rattle.std.proofs.Common.{◌∙◌, None, ap, sym}
use Rattle.al_tree.specs.UnitViews.{library_item_model}
use Rattle.al_tree.specs.declared.unit.LibraryItem.{LibraryItem}
use Rattle.al_check_start.specs.UnitsAt.{completed_at, declared_view, of_library}
use Rattle.al_check_start.proofs.Steps.{if_ok}
use Rattle.al_check_start.proofs.completed.completed_at.Goals as goal

pub returns-in-Subprogram-clause-answered : goal.returns-in-Subprogram-clause-answered
returns-in-Subprogram-clause-answered g c =
    if_ok c.of_library.result _ _
    (λ completed is t h. (h, is ∙ ap (λ (i : LibraryItem). of_library (library_item_model i) None) c.in-Subprogram.is ∙ ap (λ (i : LibraryItem). completed_at t c.args.unit.now (library_item_model i)) (sym c.in-Subprogram.is)))
    c.of_library.ensures

pub returns-in-Package-clause-answered : goal.returns-in-Package-clause-answered
returns-in-Package-clause-answered g c =
    if_ok c.of_library-in-Package.result _ _
    (λ completed is t h. (h, is ∙ ap (λ (i : LibraryItem). of_library (library_item_model i) None) c.in-Package.is ∙ ap (λ (i : LibraryItem). completed_at t c.args.unit.now (library_item_model i)) (sym c.in-Package.is)))
    c.of_library-in-Package.ensures

pub returns-in-Body-clause-answered : goal.returns-in-Body-clause-answered
returns-in-Body-clause-answered g c =
    if_ok c.of_body.result _ _
    (λ completed answered t h. let known = answered t h in (
      known.0,
      known.1 ∙ ap (λ (i : LibraryItem). of_library (library_item_model i) (declared_view t c.args.unit.now)) c.in-Body.is
          ∙ ap (λ (i : LibraryItem). completed_at t c.args.unit.now (library_item_model i)) (sym c.in-Body.is),
    ))
    c.of_body.ensures.answered

pub returns-in-PackageBody-clause-answered : goal.returns-in-PackageBody-clause-answered
returns-in-PackageBody-clause-answered g c =
    if_ok c.of_body-in-PackageBody.result _ _
    (λ completed answered t h. let known = answered t h in (
      known.0,
      known.1 ∙ ap (λ (i : LibraryItem). of_library (library_item_model i) (declared_view t c.args.unit.now)) c.in-PackageBody.is
          ∙ ap (λ (i : LibraryItem). completed_at t c.args.unit.now (library_item_model i)) (sym c.in-PackageBody.is),
    ))
    c.of_body-in-PackageBody.ensures.answered

pub returns-in-Subunit-clause-answered : goal.returns-in-Subunit-clause-answered
returns-in-Subunit-clause-answered g c =
    if_ok c.of_subunit.result _ _
    (λ completed answered t h. let known = answered t h in
    (known.0, known.1 ∙ ap (λ (i : LibraryItem). completed_at t c.args.unit.now (library_item_model i)) (sym c.in-Subunit.is)))
    c.of_subunit.ensures.answered
