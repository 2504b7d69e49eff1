use Rattle.std.proofs.Common.{map}
use Rattle.al_tree.specs.StatementViews.{alternative_model, alternatives_of}
use Rattle.al_stmts_text.proofs.HeadSteps.{case_headed}
use Rattle.al_stmts_text.proofs.Read.{if_ok}
use Rattle.al_stmts_text.proofs.heads.case_head.Goals as goal

pub returns-clause-answered : goal.returns-clause-answered
returns-clause-answered g c =
    if_ok c.case_after.result _ _
    (λ done answered t h.
    let last = answered t h in
    let selector = c.in_ok-checked.ensures.answered t last.0 in
    let taken = c.in_ok-with_word.ensures.answered t selector.0 in
    let word = c.in_ok-slot.ensures.answered t taken.0 in
    (word.0, case_headed (g.R.Analyzer.reading t) c.args.place _ _ _ _ _ _ _ _ (alternative_model c.args.first.now) (alternatives_of (map alternative_model c.args.others.now)) word.1 taken.1 selector.1 last.1))
    c.case_after.ensures.answered
