-- Why a unit was checked, in words.
use Rattle.std.proofs.Common.{◌≡◌, ◌≢◌, ℕ, zero, suc, refl}
use Rattle.adabuild.specs.Why.{current_words, several_words}

-- several answers are as before
pub current_several : (count : ℕ) → count ≢ 0 → count ≢ 1 → current_words count ≡ several_words count
current_several zero some more = absurd (some refl)
current_several (suc zero) some more = absurd (more refl)
current_several (suc (suc n)) some more = refl
