use Rattle.std.proofs.Common.{ap, ◌∙◌}
use Rattle.al_decl.specs.Checking.{with_scope}
use Rattle.al_decl.specs.declared.env.Environment.{Environment}
use Rattle.al_scope.specs.Places.{Place}
use Rattle.al_decl_judged.specs.declared.heading.Heading.{Heading}
use Rattle.al_decl.specs.Placing.{subprogram_placed}
use Rattle.al_decl.proofs.Outcomes.{if_ok}
use Rattle.al_decl.proofs.subprogram.check_subprogram.Goals as goal

pub returns-clause-answered : goal.returns-clause-answered
returns-clause-answered g c =
    let h = c.args.env.now in
    if_ok c.place_subprogram.result _ _
    (λ checked answered t agrees.
    let placed = answered t agrees in
    let heading = c.in_ok-heading.ensures.answered t placed.0 in (
      heading.0,
      placed.1
          ∙ ap (λ (p : Place). subprogram_placed t (with_scope h p) c.args.line c.in_ok-heading.heading) c.in_ok-heading.ensures.scope
          ∙ ap (λ (x : Heading). subprogram_placed t h c.args.line x) heading.1,
    ))
    c.place_subprogram.ensures.answered
