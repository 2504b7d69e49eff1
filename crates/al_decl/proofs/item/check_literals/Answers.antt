use Rattle.std.proofs.Common.{List, ap, ◌∙◌}
use Rattle.al_decl.specs.Forms.{enumeration_checked}
use Rattle.al_decl_judged.specs.declared.names.DefiningName.{DefiningName}
use Rattle.al_decl.proofs.Outcomes.{if_ok}
use Rattle.al_decl.proofs.item.check_literals.Goals as goal

pub returns-clause-answered : goal.returns-clause-answered
returns-clause-answered g c =
    if_ok c.check_enumeration.result _ _
    (λ checked answered t agrees.
    let known = answered t agrees in
    (known.0, known.1 ∙ ap (λ (ns : List DefiningName). enumeration_checked t c.args.env.now c.args.name.now ns) (c.as_slice.ensures ∙ c.in_ok-literals.ensures)))
    c.check_enumeration.ensures.answered
