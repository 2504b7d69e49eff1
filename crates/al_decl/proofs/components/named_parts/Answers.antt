use Rattle.std.proofs.Common.{List, Option, Result, map, ap, ◌∙◌}
use Rattle.al_decl_judged.specs.declared.record.Part.{Part}
use Rattle.al_decl.specs.Inner.{made_visible}
use Rattle.al_base_fault.specs.Judging.{map_ok, unless}
use Rattle.al_base_fault.specs.declared.fault.Fault.{Fault}
use Rattle.al_scope.specs.Places.{Place}
use Rattle.al_tree.specs.DeclarationViews.{component_model}
use Rattle.al_view.specs.declared.view.SubtypeView.{SubtypeView}
use Rattle.al_decl.specs.Components.{names_fault, part, parts_of_both}
use Rattle.al_decl.specs.Founds.{found_model}
use Rattle.al_decl.proofs.Outcomes.{on_ok}
use Rattle.al_decl.proofs.components.named_parts.Goals as goal

pub returns-clause-answered : goal.returns-clause-answered
returns-clause-answered g c =
    on_ok c.make_visible.result _ _
    (λ visible t h.
    let of = c.in_ok-of.ensures.answered t h in
    let fault = c.in_ok-fault.ensures.answered t of.0 in
    let names = c.args.names.now in
    let found = found_model c.args.found.now in
    let R = g.R.PartAnalyzer.reading c.args.analyzer.now t in
    let make = λ (s : SubtypeView). map (part s) names in (
      fault.0,
      c.in_ok-add.ensures
          ∙ ap (λ (d : Option Fault). parts_of_both found (unless d (map_ok make c.in_ok-of.of))) fault.1
          ∙ ap (λ (s : Result SubtypeView Fault). parts_of_both found (unless (names_fault t c.args.scope.now names) (map_ok make s))) (of.1 ∙ ap (λ (p : Place). R.indication p (component_model c.args.component.now).subtype) c.in_ok-begin.ensures.begun),
    ))
    c.make_visible.ensures.made

pub returns-clause-scope : goal.returns-clause-scope
returns-clause-scope g c =
    on_ok c.make_visible.result _ _
    (λ visible. visible ∙ ap (λ (p : Place). made_visible p c.args.names.now) c.in_ok-begin.ensures.begun)
    c.make_visible.ensures.made
