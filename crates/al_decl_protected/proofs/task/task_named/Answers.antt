use Rattle.std.proofs.Common.{ℕ, ap, ◌∙◌}
use Rattle.al_base_fault.specs.Judging.{map_ok}
use Rattle.al_decl.specs.Checking.{inside_one}
use Rattle.al_decl.specs.declared.env.Environment.{Environment}
use Rattle.al_tree.specs.DeclarationViews.{task_model}
use Rattle.al_decl_protected.specs.Levels.{level_named}
use Rattle.al_decl_protected.specs.Tasks.{task_placed}
use Rattle.al_decl_protected.proofs.Outcomes.{if_ok}
use Rattle.al_decl_protected.proofs.task.task_named.Goals as goal

pub returns-clause-answered : goal.returns-clause-answered
returns-clause-answered g c =
    let h = c.args.env.now in
    let n = c.args.name.now in
    let k = task_model c.args.task.now in
    if_ok c.leveled.result _ _
    (λ checked made t agrees.
    let level = c.in_ok-level.ensures.answered t agrees in
    let R = g.R.PartAnalyzer.reading c.args.analyzer.now t in (
      level.0,
      made
          ∙ ap (λ (e : Environment). map_ok (task_placed e c.args.line n) c.in_ok-level.level) c.in_ok-level.ensures.begun
          ∙ ap (map_ok (task_placed (inside_one h n) c.args.line n)) (level.1 ∙ ap (λ (u : ℕ). level_named R t h n u k.aspect) c.standard-usual.ensures),
    ))
    c.leveled.ensures.made
