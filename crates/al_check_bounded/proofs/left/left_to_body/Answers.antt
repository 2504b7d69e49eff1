use Rattle.std.proofs.Common.{◌∙◌, ◌&&◌, List, ℕ, ap}
use Rattle.al_query.specs.Answers.{declaration}
use Rattle.al_query.specs.declared.query.Property.TheVariants.{Completions, Kind}
use Rattle.al_query.specs.declared.query.Query.TheVariants.{Of}
use Rattle.al_query_outcome.specs.Left.{completed_views}
use Rattle.al_check_bounded.specs.Bounding.{bounded, may_ask}
use Rattle.al_check_bounded.proofs.left.left_to_body.Goals as goal

pub returns-clause-answered : goal.returns-clause-answered
returns-clause-answered g c t h =
    let b = c.args.bounds.now in
    let a = c.in_ok-views.ensures.answered t h in (
      a.0,
      (
        a.1 ∙ ap (λ (n : List ℕ). completed_views (bounded b t (Of (declaration n) Completions))) c.as_slice-name.ensures,
        c.in_ok-is_learned.ensures ∙ ap (λ (n : List ℕ). may_ask b (Of (declaration n) Completions) && may_ask b (Of (declaration n) Kind)) c.as_slice-name.ensures,
      ),
    )
