use Rattle.std.proofs.Common.{ap, ◌∙◌}
use Rattle.al_stmts_ranges.specs.ChoicesAt.{whole_at}
use Rattle.al_tree.specs.ExpressionViews.{expression_model}
use Rattle.al_overload_values.specs.Surroundings.{Surroundings}
use Rattle.al_check_reading.proofs.Composed.{if_ok}
use Rattle.al_check_reading.proofs.choices.whole.Goals as goal

pub returns-clause-answered : goal.returns-clause-answered
returns-clause-answered g c =
    if_ok c.whole_at.result _ _
    (λ found answered t h. let read = answered t h in (read.0, read.1 ∙ ap (λ (s : Surroundings). whole_at t s (expression_model c.args.selector.now)) c.site.ensures))
    c.whole_at.ensures.answered
