use Rattle.std.proofs.Common.{ap, ◌∙◌}
use Rattle.al_decl.specs.Declaring.{duplicate}
use Rattle.al_view.specs.declared.view.ViewKind.{ViewKind}
use Rattle.al_decl.proofs.Outcomes.{if_ok}
use Rattle.al_decl.proofs.subprogram_homograph.typed_duplicate.Goals as goal

pub returns-clause-answered : goal.returns-clause-answered
returns-clause-answered g c =
    if_ok c.duplicate.result _ _
    (λ fault answered t h.
    let known = answered t h in
    (known.0, known.1 ∙ ap (λ (v : ViewKind). duplicate t c.args.env.now.scope v c.args.heading.now.name) c.in_ok-view.ensures.1))
    c.duplicate.ensures.answered
