use Rattle.al_check_start.proofs.unit.waiting_after.Goals as goal

pub returns-in-Ok-clause-answered : goal.returns-in-Ok-clause-answered
returns-in-Ok-clause-answered g c t h =
    let waits = c.in-Ok.ensures.answered t h in
    let hides = c.in_ok-hidden.ensures.answered t waits.0 in
    (hides.0, (waits.1, hides.1))
