use Rattle.std.proofs.Common.{List, ℕ, ap, ◌∙◌}
use Rattle.al_query.specs.declared.answer.Completion.{Completion}
use Rattle.al_view.specs.declared.view.ViewKind.{ViewKind}
use Rattle.al_scope.proofs.seen.completion_seen_at.Goals as goal

pub returns-clause-answered : goal.returns-clause-answered
returns-clause-answered g c t h =
    let answered = c.in_ok-view.ensures.answered t h in
    let named : List ℕ → Completion = λ n. record { name = n; view = c.in_ok-view.view } in
    let viewed : ViewKind → Completion = λ v. record { name = c.args.completion.now.name; view = v } in
    (answered.0, ap named (c.in_ok-name.ensures ∙ c.as_slice.ensures) ∙ ap viewed answered.1)
