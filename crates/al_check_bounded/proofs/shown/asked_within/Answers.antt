use Rattle.std.proofs.Common.{subst}
use Rattle.al_query.specs.Reads.{Agrees, Log}
use Rattle.al_check_bounded.specs.Bounding.{bounded}
use Rattle.al_check_bounded.proofs.shown.asked_within.Goals as goal

pub returns-clause-answered : goal.returns-clause-answered
returns-clause-answered g c t h =
    let answered = c.in_ok-replay.ensures.answered t h in
    let b = c.args.bounds.now in
    (answered.0, (c.in_ok-views.ensures.answered (bounded b t) (subst (λ (l : Log). Agrees (bounded b t) l) c.into_log-log.ensures.log answered.1)).1)
