use Rattle.std.proofs.Common.{Err, Option, ap, ◌∙◌}
use Rattle.al_base_fault.specs.declared.fault.Fault.{Fault}
use Rattle.al_decl.specs.Items.{refused}
use Rattle.al_decl.proofs.private_type.refuse_private.Goals as goal

pub returns-clause-answered : goal.returns-clause-answered
returns-clause-answered g c t agrees =
    let known = c.in_ok-duplicate.ensures.answered t agrees in
    (known.0, ap (λ (f : Fault). Err f) (c.refused.ensures ∙ ap (λ (d : Option Fault). refused d c.args.name.now) known.1))
