use Rattle.std.proofs.Common.{ℕ, Option, Result, ap, sym, ◌∙◌}
use Rattle.al_base_fault.specs.declared.fault.Fault.{Fault}
use Rattle.al_decl.specs.Checking.{at_place}
use Rattle.al_view_typed.specs.DeclarationTrees.{DeclarationTree}
use Rattle.al_decl.specs.Items.{private_item}
use Rattle.al_decl.proofs.Outcomes.{if_ok}
use Rattle.al_decl.proofs.private_type.check_private_item.Goals as goal

pub returns-in-Some-clause-answered : goal.returns-in-Some-clause-answered
returns-in-Some-clause-answered g c =
    if_ok c.check_private.result _ _
    (λ checked answered t agrees.
    let known = answered t agrees in
    (known.0, known.1 ∙ ap (λ (w : Option ℕ). private_item t c.args.env.now c.args.name.now w) (sym c.in-Some.is)))
    c.check_private.ensures.answered

pub returns-in-None-clause-answered : goal.returns-in-None-clause-answered
returns-in-None-clause-answered g c =
    if_ok c.refuse_private.result _ _
    (λ checked answered t agrees.
    let known = answered t agrees in (
      known.0,
      ap (λ (x : Result (Option DeclarationTree) Fault). at_place c.args.env.now x) known.1
          ∙ ap (λ (w : Option ℕ). private_item t c.args.env.now c.args.name.now w) (sym c.in-None.is),
    ))
    c.refuse_private.ensures.answered
