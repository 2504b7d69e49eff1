use Rattle.std.proofs.Common.{◌∙◌, sym, arith}
use Rattle.al_lex.proofs.Bodies.{plain_step, bad_step, twice_step, last_step, over}
use Rattle.al_lex.proofs.strings.body_len.Goals as goal
use Rattle.al_lex.proofs.strings.body_len.Goals.{else-i-bytes-via-then-i-bytes+else-bytes-i-eq34, else-i-bytes-via-else-i-bytes}

pub loop-i-preserved-then-bytes-i-eq34 : goal.loop-i-preserved-then-bytes-i-eq34
loop-i-preserved-then-bytes-i-eq34 c = record { in_range = omega arith; goes_on = sym (twice_step c.args.bytes.now c.loop-i.i (omega arith) c.if-b-eq34.true c.if-i-bytes.true c.if-bytes-i-eq34.true) ∙ c.loop-i.invariant.goes_on }

pub loop-i-preserved : goal.loop-i-preserved
loop-i-preserved c = record { in_range = omega arith; goes_on = sym (plain_step c.args.bytes.now c.loop-i.i (omega arith) c.if-b-eq34.false (sym c.is_printable.ensures ∙ c.if-is_printable.true)) ∙ c.loop-i.invariant.goes_on }

pub returns-clause-exact : goal.returns-clause-exact
returns-clause-exact c = sym (over c.args.bytes.now c.loop-i.i (omega arith)) ∙ c.loop-i.invariant.goes_on

pub returns-else-is_printable-clause-exact : goal.returns-else-is_printable-clause-exact
returns-else-is_printable-clause-exact c = sym (bad_step c.args.bytes.now c.loop-i.i (omega arith) c.if-b-eq34.false (sym c.is_printable.ensures ∙ c.if-is_printable.false)) ∙ c.loop-i.invariant.goes_on

pub returns-else-i-bytes-clause-exact : goal.returns-else-i-bytes-clause-exact
returns-else-i-bytes-clause-exact c = sym (last_step c.args.bytes.now c.loop-i.i (omega arith) c.if-b-eq34.true
    (elim c.else-i-bytes.branch [
      | else-i-bytes-via-then-i-bytes+else-bytes-i-eq34 w ↦ λ l e. w.if-bytes-i-eq34.false e
      | else-i-bytes-via-else-i-bytes w ↦ λ l e. absurd (omega arith)
    ])) ∙ c.loop-i.invariant.goes_on
