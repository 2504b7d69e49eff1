use Rattle.std.proofs.Common.{◌∙◌, ap, filter}
use Rattle.al_scope.specs.UseClauses.{opens}
use Rattle.al_scope.proofs.uses.ask_used.Goals as goal

pub returns-clause-answered : goal.returns-clause-answered
returns-clause-answered g c t h =
    let answered = c.in_ok-offered.ensures.answered t h in
    (answered.0, c.in_ok-opened.ensures.is ∙ ap (filter (opens c.args.used.now)) answered.1)
