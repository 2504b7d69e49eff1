use Rattle.std.proofs.Common.{◌≡◌, ◌≤◌, min, drop}
use Rattle.al_lex.specs.Numbers.{numeral_value}
use Rattle.al_lex.proofs.numbers.numeral_value.Given as goal

abbrev pub invariant-loop-b : goal.invariant-loop-b
invariant-loop-b l = record {
  fits : l.value ≤ 18446744073709551615;
  value : min (numeral_value l.base l.value (drop l.b-index l.text)) 18446744073709551615 ≡ min (numeral_value l.base 0 l.text) 18446744073709551615;
}
