use Rattle.std.proofs.Common.{sym, ◌∙◌}
use Rattle.al_scope.proofs.PlaceLemmas.{uses_at-last}
use Rattle.al_scope.proofs.scope.uses_of.Goals as goal

pub returns-in_ok-uses-in-Some-clause-is : goal.returns-in_ok-uses-in-Some-clause-is
returns-in_ok-uses-in-Some-clause-is c = c.in_ok-uses-in-Some.ensures.is ∙ sym (uses_at-last c.args.regions.now c.in-Some.region.now (sym c.in-Some.ensures.value))

pub returns-in_err-uses-in-Some-clause-takes_none : goal.returns-in_err-uses-in-Some-clause-takes_none
returns-in_err-uses-in-Some-clause-takes_none c none =
    let copied = c.in_err-uses-in-Some.ensures.takes_none (sym (uses_at-last c.args.regions.now c.in-Some.region.now (sym c.in-Some.ensures.value)) ∙ none) in
    absurd (cc)
