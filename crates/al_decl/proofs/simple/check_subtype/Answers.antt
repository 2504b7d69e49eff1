use Rattle.std.proofs.Common.{Option, Result, ap, ◌∙◌}
use Rattle.al_decl_judged.specs.Subtypes.{subtype_declared}
use Rattle.al_decl.specs.Declaring.{duplicate}
use Rattle.al_view.specs.declared.view.ViewKind.TheVariants.{OfComponent}
use Rattle.al_base_fault.specs.declared.fault.Fault.{Fault}
use Rattle.al_scope.specs.Places.{Place}
use Rattle.al_tree.specs.DeclarationViews.{indication_model}
use Rattle.al_view.specs.declared.view.SubtypeView.{SubtypeView}
use Rattle.al_decl.specs.Checking.{with_scope}
use Rattle.al_decl.proofs.Chains.{finishes, if_ok}
use Rattle.al_decl.proofs.simple.check_subtype.Goals as goal

pub returns-clause-answered : goal.returns-clause-answered
returns-clause-answered g c =
    let h = c.args.env.now in
    let n = c.args.name.now in
    let i = indication_model c.args.indication.now in
    if_ok c.finish.result _ _
    (λ checked made t agrees.
    let of = c.in_ok-of.ensures.answered t agrees in
    let homograph = c.in_ok-duplicate.ensures.answered t of.0 in
    let R = g.R.PartAnalyzer.reading c.args.analyzer.now t in (
      homograph.0,
      finishes _ _ h.progress _ _ _ made
          (c.in_ok-declared.ensures
          ∙ ap (λ (d : Option Fault). subtype_declared h.progress n d c.in_ok-of.of) homograph.1
          ∙ ap (λ (s : Result SubtypeView Fault). subtype_declared h.progress n (duplicate t h.scope OfComponent n) s) (of.1 ∙ ap (λ (p : Place). R.indication p i) c.in_ok-begin_one.ensures.begun))
          (ap (with_scope h) c.in_ok-begin_one.ensures.begun),
    ))
    c.finish.ensures.made
