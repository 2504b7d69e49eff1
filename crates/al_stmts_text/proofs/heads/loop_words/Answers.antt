use Rattle.al_stmts_text.proofs.HeadSteps.{words_taken}
use Rattle.al_stmts_text.proofs.heads.loop_words.Goals as goal

pub returns-clause-answered : goal.returns-clause-answered
returns-clause-answered g c = λ t h.
    let last_taken = c.in_ok-with_word-2.ensures.answered t h in
    let last = c.in_ok-last.ensures.answered t last_taken.0 in
    let taken = c.in_ok-with_word.ensures.answered t last.0 in
    let one = c.in_ok-parameter.ensures.answered t taken.0 in
    (one.0, words_taken (g.R.Analyzer.reading t) _ _ _ _ _ _ _ one.1 taken.1 last.1 last_taken.1)
