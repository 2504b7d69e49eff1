use Rattle.std.proofs.Common.{ℕ, List, Result, sym, ap, ◌∙◌}
use Rattle.al_base_fault.specs.Judging.{next}
use Rattle.al_base_fault.specs.declared.fault.Fault.{Fault}
use Rattle.al_decl.specs.Checking.{with_progress}
use Rattle.al_decl_judged.specs.Progressing.{symbol_of, with_counted}
use Rattle.al_decl_judged.specs.declared.progress.Progress.{Progress}
use Rattle.al_tree.specs.DeclarationViews.{protected_model}
use Rattle.al_view.specs.declared.symbol.Symbol.{Symbol}
use Rattle.al_decl_protected.specs.Objects.{object_defined, object_leveled}
use Rattle.al_decl_protected.proofs.Outcomes.{if_ok}
use Rattle.al_decl_protected.proofs.object.object_leveled.Goals as goal

pub returns-in_ok-symbol-in-Ok-clause-answered : goal.returns-in_ok-symbol-in-Ok-clause-answered
returns-in_ok-symbol-in-Ok-clause-answered g c =
    let env = c.args.env.now in
    let n = c.args.name.now in
    let o = protected_model c.args.object.now in
    let ceiling = c.in-Ok.ceiling in
    let symbol = c.in_ok-symbol-in-Ok.ensures.symbol ∙ ap (λ (x : List ℕ). symbol_of env.progress x) c.as_slice.ensures in
    let counted = c.in_ok-symbol-in-Ok.ensures.counted ∙ ap (λ (x : List ℕ). with_counted env.progress x) c.as_slice.ensures in
    if_ok c.object_defined.result _ _
    (λ checked answered t h.
    let known = answered t h in
    let R = g.R.PartAnalyzer.reading c.args.analyzer.now t in (
      known.0,
      known.1
          ∙ ap (λ (p : Progress). object_defined R t (with_progress env p) c.args.line n c.in_ok-symbol-in-Ok.symbol o ceiling) counted
          ∙ ap (λ (s : Symbol). object_defined R t (with_progress env (with_counted env.progress n.name)) c.args.line n s o ceiling) symbol
          ∙ ap (λ (r : Result ℕ Fault). next r (object_leveled R t env c.args.line n o)) (sym c.in-Ok.is),
    ))
    c.object_defined.ensures.answered
