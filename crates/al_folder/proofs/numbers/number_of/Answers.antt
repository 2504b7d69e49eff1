use Rattle.std.proofs.Common.{◌≡◌, ◌≢◌, ℕ, ◌<◌, ◌≤◌, ◌^◌, Bool, cond, ltb, leb, ◌&&◌, List, length, get_or, Result, Ok, Err, is_err, Some, None, true, false, refl, sym, ap, ◌∙◌, rules, arith}
use Rattle.std.specs.Str.{all_ascii_digits}
use Rattle.std.specs.Str.Parse.{ParsesUnsigned, digits_value}
use Rattle.std.proofs.lemmas.Bool.Decides.{nat_tests}
use Rattle.std.proofs.lemmas.Str.Parse.{parse_plain, numerals_by_value, tells_all_ascii_digits}
use Rattle.al_folder.specs.Numbers.{number_of}
use Rattle.al_folder.proofs.numbers.number_of.Goals as goal

within : (most : ℕ) (word : List ℕ) → all_ascii_digits word ≡ true → 0 < length word → 1 ≤ digits_value 10 word → digits_value 10 word ≤ most → number_of most word ≡ Some (digits_value 10 word)
within most word digits some low high =
    let first : ltb 0 (length word) ≡ true = grind (arith, nat_tests) in
    let third : leb 1 (digits_value 10 word) ≡ true = grind (arith, nat_tests) in
    let fourth : leb (digits_value 10 word) most ≡ true = grind (arith, nat_tests) in
    rw (first, digits, third, fourth) refl

taken : {E : Type 0} (most : ℕ) (word : List ℕ) (r : Result ℕ E) (n : ℕ) → ParsesUnsigned 32 10 word r → get_or word 0 0 ≢ 43 → r ≡ Ok n → 1 ≤ n → n ≤ most → number_of most word ≡ Some n
taken most word r n parsed plain ok low high =
    let told = rw ok at (parse_plain (numerals_by_value _ tells_all_ascii_digits) 32 word r parsed plain) in
    let value : n ≡ digits_value 10 word = told.1 in
    within most word told.0.0 told.0.1 (omega (arith, value)) (omega (arith, value)) ∙ ap (λ (x : ℕ). Some x) (sym value)

refused : {E : Type 0} (most : ℕ) → most < 2 ^ 32 → (word : List ℕ) (r : Result ℕ E) → ParsesUnsigned 32 10 word r → get_or word 0 0 ≢ 43 → is_err r ≡ true → number_of most word ≡ None
refused most small32 word (Ok n) parsed plain err = cc
refused most small32 word (Err e) parsed plain err = cases (ltb 0 (length word)) (all_ascii_digits word) (leb 1 (digits_value 10 word)) (leb (digits_value 10 word) most) refl refl refl refl
  where
    cases : (a b c d : Bool) → ltb 0 (length word) ≡ a → all_ascii_digits word ≡ b → leb 1 (digits_value 10 word) ≡ c → leb (digits_value 10 word) most ≡ d → cond (a && b && c && d) (Some (digits_value 10 word)) None ≡ None
    cases false b c d i j k l = refl
    cases true false c d i j k l = refl
    cases true true false d i j k l = refl
    cases true true true false i j k l = refl
    cases true true true true i j k l =
        let some : 0 < length word = grind (arith, nat_tests) in
        let small : digits_value 10 word < 2 ^ 32 = grind (arith, nat_tests) in
        absurd (parse_plain (numerals_by_value _ tells_all_ascii_digits) 32 word (Err e) parsed plain (j, some, small))

pub returns-in_default-clause-value : goal.returns-in_default-clause-value
returns-in_default-clause-value c =
    let plain : get_or c.args.word.now 0 0 ≢ 43 = search rules in
    sym (refused c.args.most (search rules) c.args.word.now c.parse.result c.parse.ensures.value.0 plain (search rules))

pub returns-then-number-most-clause-value : goal.returns-then-number-most-clause-value
returns-then-number-most-clause-value c =
    let plain : get_or c.args.word.now 0 0 ≢ 43 = search rules in
    sym (taken c.args.most c.args.word.now c.parse.result c.in-Ok.number c.parse.ensures.value.0 plain c.in-Ok.is (omega arith) (omega arith))
