use Rattle.std.proofs.Common.{ℕ, Bool, Result, Err, if◌then◌else◌, sym, ap, ◌∙◌}
use Rattle.al_base_fault.specs.Judging.{next}
use Rattle.al_base_fault.specs.declared.fault.Fault.{Fault}
use Rattle.al_decl.specs.PartReadings.{PartReading}
use Rattle.al_scope.specs.Places.{Place}
use Rattle.al_tree.specs.DeclarationViews.{aspect_model}
use Rattle.al_tree_syntax.specs.DeclarationTrees.{AspectTree}
use Rattle.al_view_typed.specs.ExpressionTrees.{TypedTree}
use Rattle.al_decl_protected.specs.Levels.{level_of, wrong_aspect}
use Rattle.al_decl_protected.proofs.level.aspect_level.Goals as goal

abbrev choice : PartReading → Place → AspectTree → Bool → Result ℕ Fault
choice R place a b = if b then next (R.priority place a.value) level_of else Err (wrong_aspect a)

pub returns-then-is_priority-clause-answered : goal.returns-then-is_priority-clause-answered
returns-then-is_priority-clause-answered g c t h =
    let value = c.in_ok-value.ensures.answered t h in
    let R = g.R.PartAnalyzer.reading c.args.analyzer.now t in (
      value.0,
      c.level_in.ensures
          ∙ ap (λ (r : Result TypedTree Fault). next r level_of) value.1
          ∙ ap (choice R c.args.scope.now (aspect_model c.args.aspect.now)) (sym c.if-is_priority.true ∙ c.is_priority.ensures),
    )

pub returns-clause-answered : goal.returns-clause-answered
returns-clause-answered g c t h =
    let R = g.R.PartAnalyzer.reading c.args.analyzer.now t in (
      h,
      ap (λ (f : Fault). Err f) c.wrong_aspect.ensures
          ∙ ap (choice R c.args.scope.now (aspect_model c.args.aspect.now)) (sym c.if-is_priority.false ∙ c.is_priority.ensures),
    )
