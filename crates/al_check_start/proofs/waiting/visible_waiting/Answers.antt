use Rattle.std.proofs.Common.{List, ap, ◌∙◌}
use Rattle.al_scope.specs.Seen.{completions_seen_at}
use Rattle.al_check_start.proofs.Steps.{if_ok}
use Rattle.al_check_start.proofs.waiting.visible_waiting.Goals as goal

pub returns-clause-answered : goal.returns-clause-answered
returns-clause-answered g c =
    if_ok c.of.result _ _
    (λ made is t h.
    let seen = c.in_ok-seen.ensures.answered t h in
    let waits = c.in_ok-waiting.ensures.answered t seen.0 in
    (waits.0, is ∙ c.as_slice-2.ensures ∙ seen.1 ∙ ap (completions_seen_at t c.args.scope.now) (c.as_slice.ensures ∙ c.into_completions-waiting.ensures ∙ waits.1)))
    c.of.ensures
