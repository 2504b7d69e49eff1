use Rattle.al_tasks.specs.Exclusion.{reached}
use Rattle.al_tasks.proofs.Places.{above, ahead, before, falls}
use Rattle.al_tasks.proofs.levels_laws.ahead_is_above.Goals as goal

pub returns-clause-levels : goal.returns-clause-levels
returns-clause-levels c = λ image events i j y x is there. falls (reached image events).ready (c.exclusion.ensures.levels image events) i j y x is there

pub returns-clause-places : goal.returns-clause-places
returns-clause-places c = λ image events i j y x is there.
    let ready = (reached image events).ready in
    let fall = c.exclusion.ensures.levels image events in
    (before ready fall i j y x is there, ahead ready fall i j y x is there)

pub returns-clause-above : goal.returns-clause-above
returns-clause-above c = λ image events i j y x is there. above (reached image events).ready (c.exclusion.ensures.levels image events) (c.exclusion.ensures.above image events) i j y x is there
