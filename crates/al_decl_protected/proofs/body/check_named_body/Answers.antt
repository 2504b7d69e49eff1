use Rattle.std.proofs.Common.{ℕ, Bool, List, Option, is_some, sym, ap, ◌∙◌}
use Rattle.al_base_fault.specs.declared.fault.Fault.{Fault}
use Rattle.al_decl_protected.specs.Bodies.{first_named, lone_body, lone_fault}
use Rattle.al_decl_protected.proofs.Bodied.{body_alone}
use Rattle.al_decl_protected.proofs.body.check_named_body.Goals as goal

pub returns-in_ok-duplicate-in-None-clause-answered : goal.returns-in_ok-duplicate-in-None-clause-answered
returns-in_ok-duplicate-in-None-clause-answered g c t h =
    let env = c.args.env.now in
    let n = c.args.name.now in
    let head = c.args.head.now in
    let homograph = c.in_ok-duplicate-in-None.ensures.answered t h in (
      homograph.0,
      body_alone env c.args.line _ (lone_body t env n head) _
          (c.lone_fault.ensures
          ∙ ap (λ (b : Bool). lone_fault n.place b) (c.is_some.ensures ∙ ap (λ (d : Option Fault). is_some d) homograph.1))
          (ap (λ (x : List ℕ). first_named 0 x head env.uncompleted) (sym c.as_slice.ensures) ∙ c.in-None.ensures),
    )
