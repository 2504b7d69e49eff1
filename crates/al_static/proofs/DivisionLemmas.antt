-- Quotients, remainders and moduli.
use Rattle.std.proofs.Common.{◌≡◌, ◌<◌, zero, suc, ℤ, Bool, true, false, cond, Some, None, refl, sym, ap, subst, ◌∙◌, arith}
use Rattle.std.specs.Prelude.{pos, negsuc, ◌+ℤ◌, ◌*ℤ◌, unsigned_abs, int_div, int_rem}
use Rattle.std.specs.Ordering.{int_eq}
use Rattle.std.proofs.lemmas.Int.{ints, quot-rem, rem_below}
use Rattle.al_static.specs.Words.{are_opposite, by_divisor, int_mod, word_of}
use Rattle.al_static.specs.Operators.{binary_value}
use Rattle.al_static.specs.Laws.{DivisionsLeaveRemainders, ModuliFollowTheDivisor}
use Rattle.al_static.proofs.WordLemmas.{word_is}

-- what there is by a divisor is that number
by_test : (test : Bool) (z x : ℤ) → cond test None (word_of z) ≡ Some x → z ≡ x
by_test true z x e = absurd cc
by_test false z x e = word_is z x e

divided_is : (b z x : ℤ) → by_divisor b z ≡ Some x → z ≡ x
divided_is b z x e = by_test (int_eq b (pos 0)) z x e

-- and the divisor isn't 0
not_zero : (b z x : ℤ) → by_divisor b z ≡ Some x → 0 < unsigned_abs b
not_zero (pos zero) z x e = absurd cc
not_zero (pos (suc n)) z x e = omega arith
not_zero (negsuc n) z x e = omega arith

pub leave_remainders : DivisionsLeaveRemainders
unfolding binary_value
leave_remainders a b q r eq er =
    let quotient = divided_is b (int_div a b) q eq in
    let rest = divided_is b (int_rem a b) r er in
    let below = rem_below a b (not_zero b (int_rem a b) r er) in
    let P : ℤ → Type 0 = λ x. unsigned_abs x < unsigned_abs b in
    (ap (λ (x : ℤ). x *ℤ b +ℤ r) (sym quotient) ∙ ap (λ (x : ℤ). int_div a b *ℤ b +ℤ x) (sym rest) ∙ quot-rem a b, subst P rest below)

-- a remainder of the other sign, with the divisor, has not
turned : (r b : ℤ) → unsigned_abs r < unsigned_abs b → are_opposite r b ≡ true → are_opposite (r +ℤ b) b ≡ false
turned (pos n) (pos m) h e = grind (arith, ints)
turned (pos n) (negsuc m) h e = grind (arith, ints)
turned (negsuc n) (pos m) h e = grind (arith, ints)
turned (negsuc n) (negsuc m) h e = grind (arith, ints)

follows : (test : Bool) (r b : ℤ) → unsigned_abs r < unsigned_abs b → are_opposite r b ≡ test → are_opposite (cond test (r +ℤ b) r) b ≡ false
follows true r b h e = turned r b h e
follows false r b h e = e

pub follow_the_divisor : ModuliFollowTheDivisor
unfolding binary_value
follow_the_divisor a b m e =
    let is = divided_is b (int_mod a b) m e in
    let below = rem_below a b (not_zero b (int_mod a b) m e) in
    ap (λ (x : ℤ). are_opposite x b) (sym is) ∙ follows (are_opposite (int_rem a b) b) (int_rem a b) b below refl
