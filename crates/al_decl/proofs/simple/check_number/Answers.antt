use Rattle.std.proofs.Common.{List, Option, Result, ap, sym, ◌∙◌}
use Rattle.al_decl_judged.specs.Numbers.{numbers_declared}
use Rattle.al_decl_judged.specs.StaticPieces.{static_of}
use Rattle.al_decl.specs.declared.env.Environment.{Environment}
use Rattle.al_decl.specs.Declaring.{duplicates}
use Rattle.al_view.specs.declared.view.ViewKind.TheVariants.{OfComponent}
use Rattle.al_base_fault.specs.Judging.{next}
use Rattle.al_base_fault.specs.declared.fault.Fault.{Fault}
use Rattle.al_scope.specs.Places.{Place}
use Rattle.al_tree.specs.ExpressionViews.{expression_model}
use Rattle.al_view.specs.declared.types.StaticValue.{StaticValue}
use Rattle.al_decl.specs.Checking.{with_scope}
use Rattle.al_decl.proofs.Chains.{finishes, if_ok}
use Rattle.al_decl.proofs.simple.check_number.Goals as goal

pub returns-clause-answered : goal.returns-clause-answered
returns-clause-answered g c =
    let h = c.args.env.now in
    let names = c.args.names.now in
    let e = expression_model c.args.value.now in
    if_ok c.finish.result _ _
    (λ checked made t agrees.
    let value = c.in_ok-value.ensures.answered t agrees in
    let homograph = c.in_ok-duplicate.ensures.answered t value.0 in
    let R = g.R.PartAnalyzer.reading c.args.analyzer.now t in (
      homograph.0,
      finishes _ _ h.progress _ _ _ made
          (c.in_ok-declared.ensures
          ∙ ap (λ (d : Option Fault). numbers_declared h.progress names d c.in_ok-value.value) homograph.1
          ∙ ap (λ (v : Result StaticValue Fault). numbers_declared h.progress names (duplicates t h.scope OfComponent names) v) (value.1 ∙ ap (λ (p : Place). next (R.number p e) static_of) c.in_ok-begin.ensures.begun))
          (ap (with_scope h) c.in_ok-begin.ensures.begun),
    ))
    c.finish.ensures.made
