use Rattle.std.proofs.Common.{◌∙◌, ◌&&◌, Bool, List, ℕ, ap, if◌then◌else◌}
use Rattle.al_query.specs.Answers.{views_of}
use Rattle.al_query.specs.Known.{body}
use Rattle.al_query.specs.declared.query.Query.{Query}
use Rattle.al_query.specs.declared.query.Query.TheVariants.{Named}
use Rattle.al_query_outcome.specs.Left.{first_view, last_of, one_view, separate}
use Rattle.al_query_outcome.specs.ReadsLaw.{subunit}
use Rattle.al_view.specs.declared.part.Part.TheVariants.{Stub}
use Rattle.al_check_bounded.specs.Bounding.{bounded, may_ask}
use Rattle.al_check_bounded.proofs.left.stub_left.Goals as goal

pub returns-clause-answered : goal.returns-clause-answered
returns-clause-answered g c t h =
    let b = c.args.bounds.now in
    let a = c.in_ok-views.ensures.answered t h in
    let parent = c.args.parent.now in
    let of = if c.args.is_body then body parent else subunit parent in
    let query = c.in_ok-query.ensures ∙ ap (λ (n : List ℕ). Named of (Stub (last_of n)) separate) c.as_slice.ensures in (
      a.0,
      (
        a.1 ∙ ap (λ (q : Query). one_view (first_view (views_of (bounded b t q)))) query,
        c.both-is_learned.ensures ∙ ap (λ (m : Bool). c.args.kind && m) (c.may_ask-may_ask.ensures ∙ ap (may_ask b) query),
      ),
    )
