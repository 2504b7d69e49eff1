use Rattle.std.proofs.Common.{ℕ, Result, ap, ◌∙◌}
use Rattle.al_base_fault.specs.Judging.{next}
use Rattle.al_base_fault.specs.declared.fault.Fault.{Fault}
use Rattle.al_decl.specs.Checking.{inside_one}
use Rattle.al_decl.specs.declared.env.Environment.{Environment}
use Rattle.al_tree.specs.DeclarationViews.{protected_model}
use Rattle.al_decl_protected.specs.Levels.{level_named}
use Rattle.al_decl_protected.specs.Objects.{object_leveled}
use Rattle.al_decl_protected.proofs.Outcomes.{if_ok}
use Rattle.al_decl_protected.proofs.object.object_named.Goals as goal

pub returns-clause-answered : goal.returns-clause-answered
returns-clause-answered g c =
    let h = c.args.env.now in
    let n = c.args.name.now in
    let o = protected_model c.args.object.now in
    if_ok c.object_leveled.result _ _
    (λ checked answered t agrees.
    let known = answered t agrees in
    let ceiling = c.in_ok-ceiling.ensures.answered t known.0 in
    let R = g.R.PartAnalyzer.reading c.args.analyzer.now t in (
      ceiling.0,
      known.1
          ∙ ap (λ (e : Environment). next c.in_ok-ceiling.ceiling (object_leveled R t e c.args.line n o)) c.in_ok-ceiling.ensures.begun
          ∙ ap (λ (r : Result ℕ Fault). next r (object_leveled R t (inside_one h n) c.args.line n o)) (ceiling.1 ∙ ap (λ (u : ℕ). level_named R t h n u o.aspect) c.highest-usual.ensures),
    ))
    c.object_leveled.ensures.answered
