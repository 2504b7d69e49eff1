use Rattle.al_check_bounded.specs.Bounding.{bounded}
use Rattle.al_check_bounded.proofs.checking.found_within.Goals as goal

pub returns-clause-found : goal.returns-clause-found
returns-clause-found g c t h =
    let answered = c.in_ok-replay.ensures.answered t h in
    (answered.0, c.in_ok-found.ensures.answered (bounded c.args.bounds.now t) answered.1)
