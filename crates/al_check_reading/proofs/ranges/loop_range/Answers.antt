use Rattle.std.proofs.Common.{ℕ, ap, ◌∙◌}
use Rattle.al_stmts_ranges.specs.LoopsAt.{loop_range_at}
use Rattle.al_tree.specs.DeclarationViews.{discrete_range_model}
use Rattle.al_overload_values.specs.Surroundings.{Surroundings}
use Rattle.al_check_reading.specs.ValuesHere.{surroundings}
use Rattle.al_check_reading.proofs.Composed.{range-is}
use Rattle.al_check_reading.proofs.ranges.loop_range.Goals as goal

pub returns-clause-answered : goal.returns-clause-answered
returns-clause-answered g c t h =
    let answered = c.in_ok-found.ensures.answered t h in
    let state = c.args.state.now in (
      answered.0,
      range-is state c.set_word.new.self c.keep_type.new.state c.loop_range_at.new.word _ _ _ c.set_word.ensures c.keep_type.ensures.state c.keep_type.ensures.range
          (answered.1
          ∙ ap (λ (s : Surroundings). loop_range_at t s (discrete_range_model c.args.range.now) c.word-word.result) c.site.ensures
          ∙ ap (λ (w : ℕ). loop_range_at t (surroundings state) (discrete_range_model c.args.range.now) w) c.word-word.ensures),
    )
