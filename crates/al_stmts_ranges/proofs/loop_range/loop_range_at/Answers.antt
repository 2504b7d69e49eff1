use Rattle.std.proofs.Common.{ap, ◌∙◌}
use Rattle.al_stmts_ranges.specs.LoopsAt.{range_with_words}
use Rattle.al_stmts_ranges.proofs.loop_range.loop_range_at.Goals as goal

pub returns-clause-answered : goal.returns-clause-answered
returns-clause-answered g c t h =
    let answered = c.in_ok-checked.ensures.answered t h in
    (answered.0, c.take_range_words.ensures ∙ ap (range_with_words c.args.word.now) answered.1)
