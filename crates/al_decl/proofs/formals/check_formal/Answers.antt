use Rattle.std.proofs.Common.{◌≡◌, List, ◌++◌, ap, ◌∙◌}
use Rattle.al_decl_judged.specs.declared.names.DefiningName.{DefiningName}
use Rattle.al_decl.specs.Declaring.{begun}
use Rattle.al_decl.specs.Inner.{made_visible}
use Rattle.al_decl.specs.Defining.{defining_names}
use Rattle.al_scope.specs.Places.{Place}
use Rattle.al_tree.specs.DeclarationViews.{formal_model}
use Rattle.al_decl.specs.Formals.{formal_read}
use Rattle.al_decl.proofs.Outcomes.{on_ok}
use Rattle.al_decl.proofs.formals.check_formal.Goals as goal

pub returns-clause-answered : goal.returns-clause-answered
returns-clause-answered g c =
    on_ok c.make_visible.result _ _
    (λ made t h.
    let answered = c.in_ok-read_formal.ensures.answered t h in
    let f = formal_model c.args.formal.now in
    let R = g.R.PartAnalyzer.reading c.args.analyzer.now t in
    let same : c.as_slice-names.result.now ≡ defining_names f.names = c.as_slice-names.ensures ∙ c.in_ok-names.ensures in (
      answered.0,
      answered.1
          ∙ ap (λ (p : Place). c.args.formals.now ++ formal_read R p f c.as_slice-names.result.now) c.in_ok-begin.ensures.begun
          ∙ ap (λ (ns : List DefiningName). c.args.formals.now ++ formal_read R (begun c.args.scope.now ns) f ns) same,
    ))
    c.make_visible.ensures.made

pub returns-clause-scope : goal.returns-clause-scope
returns-clause-scope g c =
    on_ok c.make_visible.result _ _
    (λ made.
    let f = formal_model c.args.formal.now in
    let same : c.as_slice-names.result.now ≡ defining_names f.names = c.as_slice-names.ensures ∙ c.in_ok-names.ensures in
    made
    ∙ ap (λ (p : Place). made_visible p c.as_slice-names.result.now) c.in_ok-begin.ensures.begun
    ∙ ap (λ (ns : List DefiningName). made_visible (begun c.args.scope.now ns) ns) same)
    c.make_visible.ensures.made
