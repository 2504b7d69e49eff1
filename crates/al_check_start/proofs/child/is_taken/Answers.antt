use Rattle.std.proofs.Common.{◌∙◌, ℕ, List, Option, ap}
use Rattle.al_check_start.specs.UnitsAt.{taken_in}
use Rattle.al_check_start.proofs.Steps.{if_ok}
use Rattle.al_check_start.proofs.child.is_taken.Goals as goal

pub returns-in-Some-clause-answered : goal.returns-in-Some-clause-answered
returns-in-Some-clause-answered g c =
    if_ok c.taken_in_parent.result _ _
    (λ taken answered t h. let known = answered t h in
    (known.0, known.1 ∙ ap (λ (o : Option (List ℕ)). taken_in t c.args.last.now o) c.in-Some.ensures))
    c.taken_in_parent.ensures.answered

pub returns-in-None-clause-answered : goal.returns-in-None-clause-answered
returns-in-None-clause-answered g c =
    if_ok c.has.result _ _
    (λ taken answered t h. let known = answered t h in
    (known.0, known.1 ∙ ap (λ (o : Option (List ℕ)). taken_in t c.args.last.now o) c.in-None.ensures))
    c.has.ensures.answered
