-- Sums and products that are words.
use Rattle.std.proofs.Common.{◌≡◌, suc, ℤ, Bool, true, false, cond, Option, Some, None, refl, ap, arith, inl, inr, ◌⊎◌}
use Rattle.std.proofs.lemmas.Bool.Decides.{leb_tells}
use Rattle.std.specs.Option.{SomeIff}
use Rattle.std.specs.Prelude.{FitsSigned, pos, negsuc}
use Rattle.std.specs.Int.{w64}
use Rattle.al_static.specs.Words.{is_word, word_of}

-- a number is a word if, and only if, it fits
pub word_tells : (z : ℤ) → ((is_word z ≡ true) × FitsSigned w64 z) ⊎ ((is_word z ≡ false) × (¬ FitsSigned w64 z))
word_tells (pos n) =
    elim (leb_tells (suc n) 9223372036854775808) [
      | inl w ↦ inl (w.0, record { sfits = w.1 })
      | inr w ↦ inr (w.0, λ fits. let below = fits.sfits in let above = w.1 in absurd (omega arith))
    ]
word_tells (negsuc n) =
    elim (leb_tells (suc n) 9223372036854775808) [
      | inl w ↦ inl (w.0, record { sfits = w.1 })
      | inr w ↦ inr (w.0, λ fits. let below = fits.sfits in let above = w.1 in absurd (omega arith))
    ]

by_test : (r : Option ℤ) (z : ℤ) → ((is_word z ≡ true) × FitsSigned w64 z) ⊎ ((is_word z ≡ false) × (¬ FitsSigned w64 z)) → SomeIff r (FitsSigned w64 z) z → r ≡ word_of z
by_test None z (inl w) h = absurd (h w.1)
by_test None z (inr w) h = let b = w.0 in rw b refl
by_test (Some x) z (inl w) h = let b = w.0 in let e = h.1 in rw b (ap Some e)
by_test (Some x) z (inr w) h = absurd (w.1 h.0)

-- what a checked operation answers, as a word
pub word_of_some : (r : Option ℤ) (z : ℤ) → SomeIff r (FitsSigned w64 z) z → r ≡ word_of z
word_of_some r z h = by_test r z (word_tells z) h

is_by : (z x : ℤ) (b : Bool) → cond b (Some z) (None) ≡ Some x → z ≡ x
is_by z x true e = cc
is_by z x false e = absurd cc

-- the number that is the word
pub word_is : (z x : ℤ) → word_of z ≡ Some x → z ≡ x
word_is z x e = is_by z x (is_word z) e
