use Rattle.std.proofs.Common.{◌∙◌, ◌||◌, ap, sym}
use Rattle.al_scope.specs.UnitPlaces.{some_private}
use Rattle.al_scope.proofs.UnitPlaceLemmas.{asks-none}
use Rattle.al_scope.proofs.unit_place.sees_private_part.Goals as goal

pub returns-then-sees-clause-answered : goal.returns-then-sees-clause-answered
returns-then-sees-clause-answered g c t h = (h, sym (ap (λ b. b || some_private t c.args.nearer.now) c.if-sees.true))

pub returns-then-sees-clause-asks : goal.returns-then-sees-clause-asks
returns-then-sees-clause-asks g c = asks-none c.args.nearer.now c.args.recorder.now.log

pub returns-clause-answered : goal.returns-clause-answered
returns-clause-answered g c t h =
    let answered = c.in_ok-are.ensures.answered t h in
    (answered.0, answered.1 ∙ sym (ap (λ b. b || some_private t c.args.nearer.now) c.if-sees.false))
