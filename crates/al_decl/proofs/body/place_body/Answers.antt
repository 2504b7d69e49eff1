use Rattle.std.proofs.Common.{Bool, Option, is_some, subst, ap, ◌∙◌}
use Rattle.al_base_fault.specs.declared.fault.Fault.{Fault}
use Rattle.al_decl_judged.specs.Completions.{IsCompleting}
use Rattle.al_decl_judged.specs.Profiles.{specification_of}
use Rattle.al_decl.proofs.Outcomes.{if_ok}
use Rattle.al_decl.proofs.body.place_body.Goals as goal

pub returns-clause-answered : goal.returns-clause-answered
returns-clause-answered g c =
    let h = c.args.env.now in
    let head = c.args.heading.now in
    if_ok c.complete.result _ _
    (λ checked made t agrees.
    let homograph = c.in_ok-duplicate.ensures.answered t agrees in (
      homograph.0,
      (
        c.in_ok-completes.completes,
        subst (λ (b : Bool). IsCompleting h.uncompleted head.name (specification_of head) c.args.may_declare b c.in_ok-completes.completes) (c.is_some.ensures ∙ ap (λ (d : Option Fault). is_some d) homograph.1) c.in_ok-completes.ensures.completing,
        made,
      ),
    ))
    c.complete.ensures.made
