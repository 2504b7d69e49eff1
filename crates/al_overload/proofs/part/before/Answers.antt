use Rattle.std.proofs.Common.{◌≡◌, Some, List, ℕ, arith, rules}
use Rattle.std.specs.Prelude.{option_map}
use Rattle.al_overload.specs.PartChains.{link_of}
use Rattle.al_overload.proofs.PartLemmas.{before_next}
use Rattle.al_overload.proofs.part.before.Goals as goal
use Rattle.al_overload.specs.TermViews.{term_model}

pub loop-count-preserved : goal.loop-count-preserved
loop-count-preserved c =
    let link : link_of (term_model c.loop-count.rest.now) ≡ Some (term_model c.in-Some.prefix.now, option_map (λ n. n.now) c.in-Some.field-0-1) = search rules in
    let next = before_next c.args.most c.loop-count.count (term_model c.args.term.now) (term_model c.loop-count.rest.now) (term_model c.in-Some.prefix.now) (option_map (λ n. n.now) c.in-Some.field-0-1)
    link c.loop-count-test.true c.loop-count.invariant.most c.loop-count.invariant.count in
    record { most = next.0; count = next.1; below = omega (arith, c.in-Some.ensures.below, c.loop-count.invariant.below) }
