use Rattle.std.proofs.Common.{ap, ◌∙◌}
use Rattle.al_overload_values.specs.Words.{with_words}
use Rattle.al_overload_values.proofs.value.value_at.Goals as goal

pub returns-clause-answered : goal.returns-clause-answered
returns-clause-answered g c t h =
    let answered = c.in_ok-checked.ensures.answered t h in
    (answered.0, c.take_words.ensures ∙ ap (with_words c.args.word.now) answered.1)
