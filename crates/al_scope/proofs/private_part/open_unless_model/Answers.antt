use Rattle.std.proofs.Common.{[], ◌∷◌, ◌∙◌, ap, cond, sym}
use Rattle.al_query.specs.Asked.{by_property}
use Rattle.al_query.proofs.AskLemmas.{asks_of-right}
use Rattle.al_scope.specs.UnitPlaces.{opened}
use Rattle.al_scope.proofs.UnitPlaceLemmas.{asks-turned}
use Rattle.al_scope.proofs.private_part.open_unless_model.Goals as goal

pub returns-then-branch-clause-answered : goal.returns-then-branch-clause-answered
returns-then-branch-clause-answered g c t h =
    let before = c.args.scope.now.regions in
    let answered = c.in_ok-sees_private_part.ensures.answered t h in
    (answered.0, sym (ap (λ b. cond b before (opened t c.args.unit.now before)) (sym answered.1 ∙ c.if-branch.true)))

pub returns-clause-answered : goal.returns-clause-answered
returns-clause-answered g c t h =
    let before = c.args.scope.now.regions in
    let more = c.in_ok-open.ensures.answered t h in
    let answered = c.in_ok-sees_private_part.ensures.answered t more.0 in
    (answered.0, more.1 ∙ sym (ap (λ b. cond b before (opened t c.args.unit.now before)) (sym answered.1 ∙ c.if-branch.false)))

pub returns-then-branch-clause-asks : goal.returns-then-branch-clause-asks
returns-then-branch-clause-asks g c =
    asks_of-right (c.args.unit.now ∷ []) c.args.nearer.now by_property c.args.recorder.now.log c.sees_private_part.new.recorder.log c.in_ok-sees_private_part.ensures.asks

pub returns-clause-asks : goal.returns-clause-asks
returns-clause-asks g c =
    asks-turned c.args.unit.now c.args.nearer.now c.args.recorder.now.log c.sees_private_part.new.recorder.log c.open.new.recorder.log c.in_ok-sees_private_part.ensures.asks c.in_ok-open.ensures.asks

pub returns-in_err-open-clause-takes_none : goal.returns-in_err-open-clause-takes_none
returns-in_err-open-clause-takes_none g c sees =
    let seen = c.in_ok-sees_private_part.ensures.seen sees in
    let isnt = c.if-branch.false in
    absurd (cc)
