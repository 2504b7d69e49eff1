use Rattle.std.proofs.Common.{◌∙◌}
use Rattle.al_decl.proofs.Chains.{if_ok_both}
use Rattle.al_decl.proofs.definition.array_parts.Goals as goal

pub returns-clause-answered : goal.returns-clause-answered
returns-clause-answered g c =
    if_ok_both c.with_component.result _ _ _
    (λ parts index answered t h.
    let component = answered t h in
    let read = c.in_ok-index.ensures.answered t component.0 in
    (read.0, (index ∙ read.1, component.1)))
    c.with_component.ensures.index c.with_component.ensures.answered
