use Rattle.std.proofs.Common.{ap, ◌∙◌}
use Rattle.al_stmts_ranges.specs.ChoicesAt.{selected_at}
use Rattle.al_tree.specs.ExpressionViews.{expression_model}
use Rattle.al_tree.specs.StatementViews.{choice_model}
use Rattle.al_overload_values.specs.Surroundings.{Surroundings}
use Rattle.al_check_reading.proofs.Composed.{if_ok}
use Rattle.al_check_reading.proofs.choices.choice.Goals as goal

pub returns-clause-answered : goal.returns-clause-answered
returns-clause-answered g c =
    if_ok c.selected_at.result _ _
    (λ checked answered t h.
    let read = answered t h in (read.0, read.1 ∙ ap (λ (s : Surroundings). selected_at t s (expression_model c.args.selector.now) (choice_model c.args.choice.now)) c.site.ensures))
    c.selected_at.ensures.answered
