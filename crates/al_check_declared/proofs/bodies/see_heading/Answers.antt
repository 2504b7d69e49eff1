use Rattle.std.proofs.Common.{ap, ◌∙◌}
use Rattle.al_check_here.specs.declared.state.AnalyzedHeading.{AnalyzedHeading}
use Rattle.al_decl_judged.specs.declared.heading.ReturnedPart.{ReturnedPart}
use Rattle.al_check_declared.specs.EnteredHere.{visible_result}
use Rattle.al_check_declared.proofs.bodies.see_heading.Goals as goal

pub returns-clause-answered : goal.returns-clause-answered
returns-clause-answered g c t h =
    let returned = c.in_ok-read.ensures.answered t h in
    let put : ReturnedPart → AnalyzedHeading = λ r. record c.args.read.now { heading = record c.args.read.now.heading { returned = r } } in
    (returned.0, ap put (returned.1 ∙ ap (visible_result t c.args.scope.now) c.replace-returned.ensures.value))
