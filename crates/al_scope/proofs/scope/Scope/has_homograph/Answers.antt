use Rattle.std.proofs.Common.{◌∙◌, ap}
use Rattle.std.specs.List.{list_any}
use Rattle.al_view.specs.Homographs.{homographs}
use Rattle.al_scope.proofs.scope.Scope.has_homograph.Goals as goal

pub returns-clause-answered : goal.returns-clause-answered
returns-clause-answered g c t h =
    let answered = c.in_ok-views.ensures.answered t h in
    (answered.0, c.has_homograph-has.ensures ∙ ap (list_any (homographs c.args.view.now)) (c.as_slice.ensures ∙ answered.1))
