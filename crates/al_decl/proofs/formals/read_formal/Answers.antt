use Rattle.std.proofs.Common.{List, ◌++◌, Result, map, ap, ◌∙◌}
use Rattle.al_base_fault.specs.declared.fault.Fault.{Fault}
use Rattle.al_decl_judged.specs.declared.heading.FormalPart.{FormalPart}
use Rattle.al_view.specs.declared.view.Mode.{Mode}
use Rattle.al_view.specs.declared.view.SubtypeView.{SubtypeView}
use Rattle.al_tree.specs.DeclarationViews.{formal_model}
use Rattle.al_decl.specs.Formals.{formal_part}
use Rattle.al_decl.proofs.Outcomes.{on_ok}
use Rattle.al_decl.proofs.formals.read_formal.Goals as goal

pub returns-clause-answered : goal.returns-clause-answered
returns-clause-answered g c =
    on_ok c.add_formals.result _ _
    (λ made t h.
    let answered = c.in_ok-of.ensures.answered t h in
    let R = g.R.PartAnalyzer.reading c.args.analyzer.now t in
    let formal = c.args.formal.now in (
      answered.0,
      made
          ∙ ap (λ (of : Result SubtypeView Fault). c.args.formals.now ++ map (formal_part c.mode_of-mode.result of) c.args.names.now) answered.1
          ∙ ap (λ (mode : Mode). c.args.formals.now ++ map (formal_part mode (R.mark c.args.scope.now (formal_model c.args.formal.now).mark)) c.args.names.now) c.mode_of-mode.ensures,
    ))
    c.add_formals.ensures
