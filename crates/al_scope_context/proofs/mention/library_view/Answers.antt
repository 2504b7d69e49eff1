use Rattle.std.proofs.Common.{◌∙◌, ap}
use Rattle.al_base.specs.declared.unit_key.UnitKind.{UnitKind}
use Rattle.al_query.specs.Answers.{own_view_of}
use Rattle.al_query.specs.declared.query.Property.TheVariants.{Kind}
use Rattle.al_query.specs.declared.query.Query.TheVariants.{Of}
use Rattle.al_scope_context.proofs.mention.library_view.Goals as goal

pub returns-clause-answered : goal.returns-clause-answered
returns-clause-answered g c t h =
    let view = c.in_ok-view.ensures.answered t h in
    let half = c.in_ok-kind.ensures.answered t view.0 in
    (half.0, view.1 ∙ ap (λ (k : UnitKind). own_view_of (t (Of (record { name = c.args.name.now; kind = k }) Kind))) half.1)
