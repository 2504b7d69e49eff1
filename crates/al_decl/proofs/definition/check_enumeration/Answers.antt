use Rattle.std.proofs.Common.{Option, ap, ◌∙◌}
use Rattle.al_decl_judged.specs.TypeKinds.{enumeration_declared}
use Rattle.al_base_fault.specs.declared.fault.Fault.{Fault}
use Rattle.al_decl.specs.Checking.{with_scope}
use Rattle.al_decl.proofs.Chains.{finishes, if_ok}
use Rattle.al_decl.proofs.definition.check_enumeration.Goals as goal

pub returns-clause-answered : goal.returns-clause-answered
returns-clause-answered g c =
    let h = c.args.env.now in
    if_ok c.finish.result _ _
    (λ checked made t agrees.
    let homograph = c.in_ok-duplicate.ensures.answered t agrees in (
      homograph.0,
      finishes _ _ h.progress _ _ _ made
          (c.in_ok-declared.ensures ∙ ap (λ (d : Option Fault). enumeration_declared h.progress c.args.name.now d c.args.literals.now) homograph.1)
          (ap (with_scope h) c.in_ok-begin_type.ensures.begun),
    ))
    c.finish.ensures.made
