use Rattle.std.proofs.Common.{ℕ, Option, Result, ap, ◌∙◌}
use Rattle.std.specs.Prelude.{option_map}
use Rattle.al_base_fault.specs.Judging.{unless}
use Rattle.al_base_fault.specs.declared.fault.Fault.{Fault}
use Rattle.al_scope.specs.Places.{Place}
use Rattle.al_tree.specs.DeclarationViews.{aspect_model}
use Rattle.al_decl_protected.specs.Levels.{level_read, name_fault}
use Rattle.al_decl_protected.proofs.level.level_named.Goals as goal

pub returns-clause-answered : goal.returns-clause-answered
returns-clause-answered g c t h =
    let level = c.in_ok-level.ensures.answered t h in
    let fault = c.in_ok-fault.ensures.answered t level.0 in
    let R = g.R.PartAnalyzer.reading c.args.analyzer.now t in (
      fault.0,
      c.unless.ensures
          ∙ ap (λ (d : Option Fault). unless d c.in_ok-level.level) fault.1
          ∙ ap (λ (r : Result ℕ Fault). unless (name_fault t c.args.env.now c.args.name.now) r)
          (level.1 ∙ ap (λ (p : Place). level_read R p c.args.usual (option_map aspect_model c.args.aspect.now)) c.in_ok-begin_one.ensures.begun),
    )
