use Rattle.std.proofs.Common.{List, ◌++◌, ap, ◌∙◌}
use Rattle.std.specs.List.{flat_map}
use Rattle.al_view.specs.declared.view.ViewKind.{ViewKind}
use Rattle.al_query.specs.declared.query.Query.{Query}
use Rattle.al_check_bounded.specs.Questions.{answer_views, shown_by}
use Rattle.al_check_bounded.proofs.asking.asked_again.Goals as goal

pub returns-clause-answered : goal.returns-clause-answered
unfolding shown_by
returns-clause-answered g c t h =
    let answered = c.in_ok-ask_each.ensures.answered t h in (
      answered.0,
      c.new.ensures ∙ answered.1 ∙ ap (λ (vs : List ViewKind). vs ++ flat_map (λ q. answer_views (t q)) c.as_slice.result.now) c.new-found.ensures.items
          ∙ ap (λ (qs : List Query). flat_map (λ q. answer_views (t q)) qs) (c.as_slice.ensures.value ∙ c.in_ok-queries.ensures),
    )
