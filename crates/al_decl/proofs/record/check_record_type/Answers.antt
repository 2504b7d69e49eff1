use Rattle.std.proofs.Common.{List, Option, Result, Ok, [], ap, ◌∙◌}
use Rattle.al_decl.specs.Checking.{finished, with_scope}
use Rattle.al_decl_judged.specs.declared.record.Part.{Part}
use Rattle.al_decl_judged.specs.TypeKinds.{record_declared}
use Rattle.al_decl.specs.Inner.{in_region}
use Rattle.al_decl.specs.declared.env.Environment.{Environment}
use Rattle.al_decl.specs.TypeNames.{type_begun, type_duplicate}
use Rattle.al_base_fault.specs.declared.fault.Fault.{Fault}
use Rattle.al_scope.specs.Places.{Place}
use Rattle.al_tree.specs.DeclarationViews.{components_model}
use Rattle.al_decl.specs.Components.{component_list, parts_after}
use Rattle.al_decl.proofs.Outcomes.{if_ok}
use Rattle.al_decl.proofs.record.check_record_type.Goals as goal

pub returns-clause-answered : goal.returns-clause-answered
returns-clause-answered g c =
    let h = c.args.env.now in
    let n = c.args.name.now in
    let cs = component_list (components_model c.args.components.now) in
    if_ok c.check_record.result _ _
    (λ checked made t agrees.
    let parts = c.in_ok-parts.ensures.answered t agrees in
    let homograph = c.in_ok-duplicate.ensures.answered t parts.0 in
    let R = g.R.PartAnalyzer.reading c.args.analyzer.now t in
    let begun = c.in_ok-begin_type.ensures.begun in (
      homograph.0,
      made
          ∙ ap (λ (p : Place). finished (with_scope h p) (record_declared h.progress n c.in_ok-duplicate.duplicate c.in_ok-parts.parts)) (c.in_ok-parts.ensures.scope ∙ begun)
          ∙ ap (λ (d : Option Fault). finished (with_scope h (type_begun h.scope n)) (record_declared h.progress n d c.in_ok-parts.parts)) homograph.1
          ∙ ap (λ (r : Result (List Part) Fault). finished (with_scope h (type_begun h.scope n)) (record_declared h.progress n (type_duplicate t h.scope n) r)) (parts.1 ∙ ap (λ (p : Place). parts_after R t (in_region p) (Ok []) cs) begun),
    ))
    c.check_record.ensures.made
