use Rattle.std.proofs.Common.{ap, sym, ◌∙◌}
use Rattle.al_decl_judged.specs.declared.heading.ReturnedPart.TheVariants.{Value}
use Rattle.al_check_declared.specs.EnteredHere.{visible_result}
use Rattle.al_check_declared.proofs.bodies.visible_result.Goals as goal

pub returns-in_ok-visible_mark-in-Value-clause-answered : goal.returns-in_ok-visible_mark-in-Value-clause-answered
returns-in_ok-visible_mark-in-Value-clause-answered g c t h =
    let seen = c.in_ok-visible_mark-in-Value.ensures.answered t h in
    (seen.0, ap Value seen.1 ∙ ap (visible_result t c.args.scope.now) (sym c.in-Value.is))
