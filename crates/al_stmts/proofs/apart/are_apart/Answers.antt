-- The neighbours decide for all, as the low bounds rise.
use Rattle.std.proofs.Common.{arith, sym, ◌∙◌}
use Rattle.std.proofs.lemmas.Bool.{false≢true}
use Rattle.al_stmts.proofs.ApartLemmas.{apart_from_neighbours, neighbours_meet}
use Rattle.al_stmts.proofs.apart.are_apart.Goals as goal

pub returns-then-not-ends_before-clause-meet : goal.returns-then-not-ends_before-clause-meet
returns-then-not-ends_before-clause-meet c = λ _.
    neighbours_meet c.args.ranges.now c.loop-i.i _ c.requires.some c.requires.sorted (omega arith) (omega arith) (λ h. absurd (false≢true ((sym c.if-not-ends_before.true) ∙ c.ends_before.ensures.1 h)))

pub returns-clause-apart : goal.returns-clause-apart
returns-clause-apart c = λ _.
    apart_from_neighbours c.args.ranges.now c.requires.some (λ k d lt. c.loop-i.invariant k d (omega arith))
