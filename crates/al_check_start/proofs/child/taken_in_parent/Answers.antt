use Rattle.std.proofs.Common.{◌∙◌, Bool, ◌||◌, ap}
use Rattle.al_query.specs.Answers.{declaration, views_of}
use Rattle.al_query.specs.declared.query.Query.TheVariants.{Named}
use Rattle.al_view.specs.declared.part.Part.TheVariants.{Visible}
use Rattle.al_check_start.specs.UnitsAt.{has_views}
use Rattle.al_check_start.proofs.child.taken_in_parent.Goals as goal

pub returns-clause-answered : goal.returns-clause-answered
returns-clause-answered g c t h =
    let private = c.in_ok-private.ensures.answered t h in
    let visible = c.in_ok-visible.ensures.answered t private.0 in (
      visible.0,
      c.either-taken.ensures ∙ ap (λ (b : Bool). b || c.in_ok-private.private) visible.1
          ∙ ap (λ (b : Bool). has_views (views_of (t (Named (declaration c.args.parent.now) Visible c.args.name.now))) || b) private.1,
    )
