use Rattle.std.proofs.Common.{ℕ, ◌≡◌, ◌∙◌, min, ap, sym, arith}
use Rattle.al_lex.proofs.Numerals.{value_step, value_over}
use Rattle.al_lex.proofs.numbers.numeral_value.Goals as goal

pub loop-b-preserved : goal.loop-b-preserved
loop-b-preserved c = record {
  fits = omega (arith, c.with_byte-value.ensures);
  value = value_step 18446744073709551615 c.args.base c.loop-b.value c.with_byte-value.result c.args.text.now c.loop-b.b-index (omega arith) c.requires c.with_byte-value.ensures ∙ c.loop-b.invariant.value;
}

pub returns : goal.returns
returns c =
    let over : c.loop-b.value ≡ min c.loop-b.value 18446744073709551615 = omega (arith, c.loop-b.invariant.fits) in
    over ∙ ap (λ (k : ℕ). min k 18446744073709551615) (sym (value_over c.args.base c.loop-b.value c.args.text.now c.loop-b.b-index (omega arith))) ∙ c.loop-b.invariant.value
