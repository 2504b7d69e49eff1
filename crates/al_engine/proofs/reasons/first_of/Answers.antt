use Rattle.std.proofs.Common.{sym, ◌∙◌, arith}
use Rattle.std.proofs.lemmas.Bool.{false≢true}
use Rattle.al_engine.proofs.ReasonLemmas.{unset_more}
use Rattle.al_engine.proofs.reasons.first_of.Goals as goal

pub loop-at-init : goal.loop-at-init
loop-at-init c = λ i lt is. absurd (omega (arith, lt))

pub loop-at-preserved : goal.loop-at-preserved
loop-at-preserved c = unset_more c.args.marks.now.now c.loop-at.at c.loop-at.invariant (λ is. false≢true (sym c.if-is_now.false ∙ c.is_now.ensures.1 is))

pub returns : goal.returns
returns c = λ i lt is. c.loop-at.invariant i (omega (arith, lt, c.loop-at-test.false)) is
