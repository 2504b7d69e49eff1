use Rattle.std.proofs.Common.{List, Option, Result, Ok, [], ap, ◌∙◌}
use Rattle.al_decl.specs.Checking.{finished, with_scope}
use Rattle.al_decl_judged.specs.declared.record.Part.{Part}
use Rattle.al_decl_judged.specs.TypeKinds.{record_declared}
use Rattle.al_decl.specs.TypeNames.{type_begun}
use Rattle.al_base_fault.specs.declared.fault.Fault.{Fault}
use Rattle.al_scope.specs.Places.{Place}
use Rattle.al_decl.proofs.Outcomes.{if_ok}
use Rattle.al_decl.proofs.record.check_null_record.Goals as goal

pub returns-clause-answered : goal.returns-clause-answered
returns-clause-answered g c =
    let h = c.args.env.now in
    let n = c.args.name.now in
    if_ok c.check_record.result _ _
    (λ checked made t agrees.
    let homograph = c.in_ok-duplicate.ensures.answered t agrees in (
      homograph.0,
      made
          ∙ ap (λ (r : Result (List Part) Fault). finished (with_scope h c.begin_type.new.scope) (record_declared h.progress n c.in_ok-duplicate.duplicate r)) c.no_parts-parts.ensures
          ∙ ap (λ (p : Place). finished (with_scope h p) (record_declared h.progress n c.in_ok-duplicate.duplicate (Ok []))) c.in_ok-begin_type.ensures.begun
          ∙ ap (λ (d : Option Fault). finished (with_scope h (type_begun h.scope n)) (record_declared h.progress n d (Ok []))) homograph.1,
    ))
    c.check_record.ensures.made
