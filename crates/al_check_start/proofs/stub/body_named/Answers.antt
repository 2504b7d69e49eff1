use Rattle.std.proofs.Common.{◌∙◌, Bool, Option, is_some, ap, if◌then◌else◌}
use Rattle.al_query_outcome.specs.ReadsLaw.{subunit}
use Rattle.al_query.specs.Known.{body}
use Rattle.al_view.specs.declared.view.ViewKind.{ViewKind}
use Rattle.al_check_start.proofs.stub.body_named.Goals as goal

pub returns-clause-answered : goal.returns-clause-answered
returns-clause-answered g c t h =
    let answered = c.in_ok-view.ensures.answered t h in
    let name = c.args.name.now in
    (answered.0, c.in_ok-unit.ensures ∙ ap (λ (b : Bool). if b then body name else subunit name) (c.is_some.ensures ∙ ap (λ (o : Option ViewKind). is_some o) answered.1))
