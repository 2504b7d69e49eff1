-- What is missing is never reached by the ranges so far.
use Rattle.std.proofs.Common.{arith, refl, sym, ◌∙◌}
use Rattle.std.proofs.lemmas.Bool.{false≢true}
use Rattle.al_stmts.proofs.CoverLemmas.{all_covered, end_reached, gap, nothing_wanted, sweep_begins, sweeps_on}
use Rattle.al_stmts.proofs.cover.are_covering.Goals as goal

pub returns-then-not-has_values : goal.returns-then-not-has_values
returns-then-not-has_values c = (λ _. nothing_wanted c.args.ranges.now c.args.whole (sym c.has_values.ensures ∙ c.if-not-has_values.true), λ _. refl)

pub loop-range-init : goal.loop-range-init
loop-range-init c = sweep_begins c.args.ranges.now c.args.whole (sym c.has_values.ensures ∙ c.if-not-has_values.false)

pub returns-then-begins_after : goal.returns-then-begins_after
returns-then-begins_after c =
    (λ e. absurd (false≢true e), λ covers. absurd (gap c.args.ranges.now c.args.whole _ c.loop-range.range-index _ c.requires.some c.requires.apart c.loop-range.invariant c.loop-range-test.true (c.begins_after.ensures.0 c.if-begins_after.true) covers))

pub rest_after-requires : goal.rest_after-requires
rest_after-requires c = c.loop-range.invariant.some

pub returns-in-None : goal.returns-in-None
returns-in-None c =
    (λ _. all_covered c.args.ranges.now c.args.whole _ c.loop-range.range-index _ c.loop-range.invariant c.loop-range-test.true (λ h. absurd (false≢true (sym c.if-begins_after.false ∙ c.begins_after.ensures.1 h))) c.in-None.ensures, λ _. refl)

pub loop-range-preserved : goal.loop-range-preserved
loop-range-preserved c =
    sweeps_on c.args.ranges.now c.args.whole _ _ c.loop-range.range-index _ c.loop-range.invariant c.loop-range-test.true (λ h. absurd (false≢true (sym c.if-begins_after.false ∙ c.begins_after.ensures.1 h))) c.in-Some.ensures

pub returns : goal.returns
returns c =
    (λ e. absurd (false≢true e), λ covers. absurd (end_reached c.args.ranges.now c.args.whole _ c.loop-range.range-index c.loop-range.invariant c.loop-range-test.false covers))
