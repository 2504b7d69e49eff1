use Rattle.std.proofs.Common.{◌∙◌, ap, subst, sym}
use Rattle.al_scope.specs.Places.{use_parts, uses_at}
use Rattle.al_scope.specs.UseClauses.{EachOnce, Uses}
use Rattle.al_scope.specs.Visible.{potential}
use Rattle.al_scope.proofs.PartLemmas.{parts-none, parts-of}
use Rattle.al_scope.proofs.PlaceLemmas.{each-none, uses_at-last}
use Rattle.al_scope.proofs.search.potential_of.Goals as goal

pub returns-in_ok-views-in-Some-clause-answered : goal.returns-in_ok-views-in-Some-clause-answered
returns-in_ok-views-in-Some-clause-answered g c t h =
    let answered = c.in_ok-views-in-Some.ensures.answered t h in
    (answered.0, answered.1 ∙ ap (potential t c.args.mentioned.now c.args.name.now) (sym (uses_at-last c.args.regions.now c.in-Some.region.now (sym c.in-Some.ensures.value))))

pub returns-in_ok-views-in-Some-clause-asks : goal.returns-in_ok-views-in-Some-clause-asks
returns-in_ok-views-in-Some-clause-asks g c =
    let e = ap use_parts (sym (uses_at-last c.args.regions.now c.in-Some.region.now (sym c.in-Some.ensures.value))) in
    parts-of (use_parts c.in-Some.region.now.uses) (use_parts (uses_at c.args.regions.now)) c.args.name.now c.args.recorder.now.log c.potential.new.recorder.log e c.in_ok-views-in-Some.ensures.asks

pub returns-in-None-clause-asks : goal.returns-in-None-clause-asks
returns-in-None-clause-asks g c = parts-none (use_parts (uses_at c.args.regions.now)) c.args.name.now c.args.recorder.now.log

pub returns-in_ok-views-in-Some-clause-each : goal.returns-in_ok-views-in-Some-clause-each
returns-in_ok-views-in-Some-clause-each g c = subst (λ (us : Uses). EachOnce us) (sym (uses_at-last c.args.regions.now c.in-Some.region.now (sym c.in-Some.ensures.value))) c.in_ok-views-in-Some.ensures.each

pub returns-in-None-clause-each : goal.returns-in-None-clause-each
returns-in-None-clause-each g c = each-none c.args.regions.now (sym c.in-None.ensures.value)

pub returns-in_err-views-in-Some-clause-takes_none : goal.returns-in_err-views-in-Some-clause-takes_none
returns-in_err-views-in-Some-clause-takes_none g c none =
    let views = c.in_err-views-in-Some.ensures.takes_none (sym (uses_at-last c.args.regions.now c.in-Some.region.now (sym c.in-Some.ensures.value)) ∙ none) in
    absurd (cc)
