use Rattle.std.proofs.Common.{Result, sym, ap, ◌∙◌}
use Rattle.al_base_fault.specs.Judging.{map_ok, next}
use Rattle.al_base_fault.specs.declared.fault.Fault.{Fault}
use Rattle.al_decl.specs.declared.env.Environment.{Environment}
use Rattle.al_decl_judged.specs.declared.progress.Progress.{Progress}
use Rattle.al_tree.specs.DeclarationViews.{protected_model}
use Rattle.al_decl_protected.specs.Checks.{parts_model}
use Rattle.al_decl_protected.specs.Objects.{Inside, InsideTree, object_ended}
use Rattle.al_decl_protected.specs.declared.object.ObjectParts.{ObjectParts}
use Rattle.al_decl_protected.proofs.Outcomes.{if_ok}
use Rattle.al_decl_protected.proofs.object.object_defined.Goals as goal

abbrev see : Progress → ObjectParts → Progress × InsideTree
see p parts = (p, parts_model parts)

pub returns-in-Ok-clause-answered : goal.returns-in-Ok-clause-answered
returns-in-Ok-clause-answered g c =
    let env = c.args.env.now in
    let n = c.args.name.now in
    let o = protected_model c.args.object.now in
    let p = c.parts_at.new.env.progress in
    if_ok c.object_ended.result _ _
    (λ checked made t h.
    let parts = c.in_ok-parts.ensures.answered t h in (
      parts.0,
      made
          ∙ ap (λ (e : Environment). object_ended e c.args.line n c.args.symbol c.args.ceiling o (see p c.in-Ok.parts)) c.in_ok-parts.ensures.rest
          ∙ ap (λ (r : Result Inside Fault). next r (object_ended env c.args.line n c.args.symbol c.args.ceiling o)) (ap (map_ok (see p)) (sym c.in-Ok.is) ∙ parts.1),
    ))
    c.object_ended.ensures.made

pub returns-in-Err-clause-answered : goal.returns-in-Err-clause-answered
returns-in-Err-clause-answered g c t h =
    let parts = c.in_ok-parts.ensures.answered t h in (
      parts.0,
      ap (λ (r : Result Inside Fault). next r (object_ended c.args.env.now c.args.line c.args.name.now c.args.symbol c.args.ceiling (protected_model c.args.object.now)))
          (ap (map_ok (see c.parts_at.new.env.progress)) (sym c.in-Err.is) ∙ parts.1),
    )
