use Rattle.std.proofs.Common.{◌≡◌, ◌+◌, ◌∙◌, true, false, ap, sym, get_or, arith}
use Rattle.al_lex.specs.Numbers.{is_digit, goes_on}
use Rattle.al_lex.proofs.Numerals.{numeral_is, run_step, run_stop, run_over}
use Rattle.al_lex.proofs.numbers.numeral_len.Goals as goal

pub loop-i-preserved : goal.loop-i-preserved
loop-i-preserved c =
    let more : goes_on c.args.digits (get_or c.args.bytes.now c.loop-i.i 0) (get_or c.args.bytes.now (c.loop-i.i + 1) 0) ≡ true =
    ap (goes_on c.args.digits (get_or c.args.bytes.now c.loop-i.i 0)) (sym c.byte_at-in-loop-i.ensures) ∙ sym c.goes_on.ensures ∙ c.if-not-goes_on.false in
    record { in_range = omega arith; goes_on = sym (run_step c.args.digits c.args.bytes.now c.loop-i.i c.loop-i-test.true more) ∙ c.loop-i.invariant.goes_on }

pub returns-then-not-goes_on-clause-exact : goal.returns-then-not-goes_on-clause-exact
returns-then-not-goes_on-clause-exact c =
    let digit : is_digit c.args.digits (get_or c.args.bytes.now 0 0) ≡ true = ap (is_digit c.args.digits) (sym c.byte_at.ensures) ∙ sym c.is_digit.ensures ∙ c.if-not-is_digit.false in
    let no_more : goes_on c.args.digits (get_or c.args.bytes.now c.loop-i.i 0) (get_or c.args.bytes.now (c.loop-i.i + 1) 0) ≡ false =
    ap (goes_on c.args.digits (get_or c.args.bytes.now c.loop-i.i 0)) (sym c.byte_at-in-loop-i.ensures) ∙ sym c.goes_on.ensures ∙ c.if-not-goes_on.true in
    omega (arith, c.loop-i.invariant.goes_on, numeral_is c.args.digits c.args.bytes.now digit, run_stop c.args.digits c.args.bytes.now c.loop-i.i c.loop-i-test.true no_more)

pub returns-clause-exact : goal.returns-clause-exact
returns-clause-exact c =
    let digit : is_digit c.args.digits (get_or c.args.bytes.now 0 0) ≡ true = ap (is_digit c.args.digits) (sym c.byte_at.ensures) ∙ sym c.is_digit.ensures ∙ c.if-not-is_digit.false in
    omega (arith, c.loop-i.invariant.goes_on, numeral_is c.args.digits c.args.bytes.now digit, run_over c.args.digits c.args.bytes.now c.loop-i.i c.loop-i-test.false)
