use Rattle.std.proofs.Common.{Option, Result, ap, ◌∙◌}
use Rattle.al_decl_judged.specs.declared.subtype_views.StaticRange.{StaticRange}
use Rattle.al_decl_judged.specs.TypeKinds.{integer_declared}
use Rattle.al_decl.specs.TypeNames.{type_duplicate}
use Rattle.al_base_fault.specs.declared.fault.Fault.{Fault}
use Rattle.al_scope.specs.Places.{Place}
use Rattle.al_tree.specs.DeclarationViews.{range_model}
use Rattle.al_decl.specs.Checking.{with_scope}
use Rattle.al_decl.specs.Forms.{range_read}
use Rattle.al_decl.proofs.Chains.{finishes, if_ok}
use Rattle.al_decl.proofs.definition.check_integer.Goals as goal

pub returns-clause-answered : goal.returns-clause-answered
returns-clause-answered g c =
    let h = c.args.env.now in
    let n = c.args.name.now in
    let r = range_model c.args.range.now in
    if_ok c.finish.result _ _
    (λ checked made t agrees.
    let range = c.in_ok-range.ensures.answered t agrees in
    let homograph = c.in_ok-duplicate.ensures.answered t range.0 in
    let R = g.R.PartAnalyzer.reading c.args.analyzer.now t in (
      homograph.0,
      finishes _ _ h.progress _ _ _ made
          (c.in_ok-declared.ensures
          ∙ ap (λ (d : Option Fault). integer_declared h.progress n d c.in_ok-range.range) homograph.1
          ∙ ap (λ (s : Result StaticRange Fault). integer_declared h.progress n (type_duplicate t h.scope n) s) (range.1 ∙ ap (λ (p : Place). range_read R p r) c.in_ok-begin_type.ensures.begun))
          (ap (with_scope h) c.in_ok-begin_type.ensures.begun),
    ))
    c.finish.ensures.made
