use Rattle.std.proofs.Common.{ℕ, List, ap, ◌∙◌}
use Rattle.al_decl_judged.specs.declared.heading.Heading.{Heading}
use Rattle.al_decl.specs.Placing.{head_duplicate}
use Rattle.al_decl_protected.specs.Operations.{bare_head}
use Rattle.al_decl_protected.proofs.Outcomes.{if_ok}
use Rattle.al_decl_protected.proofs.body.entry_duplicate.Goals as goal

pub returns-clause-answered : goal.returns-clause-answered
returns-clause-answered g c =
    let env = c.args.env.now in
    let place = c.args.name.now.place in
    if_ok c.head_duplicate.result _ _
    (λ fault answered t h.
    let known = answered t h in (
      known.0,
      known.1
          ∙ ap (λ (x : Heading). head_duplicate t env x) c.bare_head-heading.ensures
          ∙ ap (λ (n : List ℕ). head_duplicate t env (bare_head (record { name = n; place = place }))) (c.in_ok-name.ensures ∙ c.as_slice.ensures),
    ))
    c.head_duplicate.ensures.answered
