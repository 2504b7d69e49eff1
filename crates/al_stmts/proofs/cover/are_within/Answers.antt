-- A range with values lies within another one if its bounds do.
use Rattle.std.proofs.Common.{arith, refl, true, false, sym, ◌∙◌, ◌<◌, ◌≤ℤ◌, length, get_or}
use Rattle.std.proofs.lemmas.Bool.{false≢true}
use Rattle.std.specs.List.{All, AllWithin}
use Rattle.std.proofs.lemmas.List.Elements.{AllWithin-upto, All-from_all_within}
use Rattle.al_stmts.specs.Values.{holds}
use Rattle.al_stmts.proofs.TimesLemmas.{bounds_within, chosen_within}
use Rattle.al_stmts.proofs.cover.are_within.Goals as goal

pub returns-then-not-lies_within : goal.returns-then-not-lies_within
returns-then-not-lies_within c = (
  λ e. absurd (false≢true e),
  λ all.
      absurd (false≢true (sym c.if-not-lies_within.true ∙ c.lies_within.ensures.1 (bounds_within c.args.ranges.now c.args.whole c.loop-range.range-index _ c.loop-range-test.true c.requires.some all))),
)

pub returns : goal.returns
returns c =
    let rs = c.args.ranges.now in
    let whole = c.args.whole in
    (λ _ v some. chosen_within rs whole v (λ k d lt. c.loop-range.invariant k d (omega arith) (omega arith)) some (holds whole v) refl, λ _. refl)
