use Rattle.std.proofs.Common.{◌∙◌, List, codes, ap, sym}
use Rattle.al_base.specs.declared.unit_key.UnitKey.{UnitKey}
use Rattle.al_query.specs.Answers.{views_of}
use Rattle.al_query.specs.declared.query.Query.TheVariants.{Named}
use Rattle.al_view.specs.declared.part.Part.TheVariants.{Stub}
use Rattle.al_view.specs.declared.view.ViewKind.{ViewKind}
use Rattle.al_query_outcome.specs.Left.{first_view, last_of}
use Rattle.al_check_start.proofs.stub.stub_view.Goals as goal

pub returns-clause-answered : goal.returns-clause-answered
returns-clause-answered g c t h =
    let answer = c.in_ok-answer.ensures.answered t h in
    let unit = c.in_ok-unit.ensures.answered t answer.0 in
    let asked = sym answer.1 ∙ ap t c.in_ok-query.ensures ∙ ap (λ (u : UnitKey). t (Named u (Stub (last_of c.args.name.now)) (codes "separate"))) unit.1 in
    (unit.0, c.in_ok-view.ensures ∙ ap (λ (vs : List ViewKind). first_view vs) (c.views.ensures ∙ ap views_of asked))
