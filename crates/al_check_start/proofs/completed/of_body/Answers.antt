use Rattle.std.proofs.Common.{◌∙◌, ℕ, List, Option, ap}
use Rattle.al_query.specs.Answers.{declaration, own_view_of}
use Rattle.al_query.specs.declared.query.Property.TheVariants.{Kind}
use Rattle.al_query.specs.declared.query.Query.TheVariants.{Of}
use Rattle.al_tree.specs.UnitViews.{library_item_model}
use Rattle.al_view.specs.declared.view.ViewKind.{ViewKind}
use Rattle.al_check_start.specs.UnitsAt.{of_library}
use Rattle.al_check_start.proofs.completed.of_body.Goals as goal

pub returns-clause-answered : goal.returns-clause-answered
returns-clause-answered g c t h =
    let answered = c.in_ok-view.ensures.answered t h in
    (answered.0, c.in_ok-completed.ensures ∙ ap (λ (v : Option ViewKind). of_library (library_item_model c.args.item.now) v) (answered.1 ∙ ap (λ (n : List ℕ). own_view_of (t (Of (declaration n) Kind))) c.as_slice.ensures))
