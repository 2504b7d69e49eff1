-- Numbers that are written over.
use Rattle.std.proofs.Common.{◌≡◌, ℕ, ◌+◌, ◌-◌, ◌≤◌, true, leb, List, length, refl, arith}
use Rattle.std.proofs.lemmas.Bool.Decides.{nat_tests}
use Rattle.std.proofs.lemmas.List.{drop-drop}
use borrow.Rule.Slice.PartMut.{put_mid}
use Rattle.al_instr.specs.Codes.{word_bytes}
use Rattle.al_link.specs.Linking.{with_word}

pub word_put : (place n : ℕ) (xs ys : List ℕ) → place + 4 ≤ length xs → ys ≡ word_bytes n → put_mid place ((place + 4) - place) xs ys ≡ with_word xs place n
unfolding with_word
word_put place n xs ys fits is =
    let test : leb (place + 4) (length xs) ≡ true = grind (arith, nat_tests) in
    let k : (place + 4) - place ≡ 4 = omega arith in
    rw (test, k, is, drop-drop 4 place xs) refl
