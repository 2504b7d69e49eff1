-- How a byte is shown, case by case.
use Rattle.std.proofs.Common.{◌≡◌, ◌≤◌, ◌<◌, ◌+◌, ℕ, List, [], ◌∷◌, codes, arith}
use Rattle.al_folder.specs.Messages.{shown_byte}

pub shown_tab : (b : ℕ) → b ≡ 9 → shown_byte b ≡ 9 ∷ []
shown_tab b is = grind arith

pub shown_control : (b : ℕ) → (b ≡ 9 → ⊥) → b < 32 → shown_byte b ≡ 94 ∷ (b + 64) ∷ []
shown_control b no_tab below = grind arith

pub shown_delete : (b : ℕ) → (b ≡ 9 → ⊥) → 32 ≤ b → b ≡ 127 → shown_byte b ≡ codes "^?"
shown_delete b no_tab past is = grind arith

pub shown_other : (b : ℕ) → (b ≡ 9 → ⊥) → 32 ≤ b → (b ≡ 127 → ⊥) → shown_byte b ≡ b ∷ []
shown_other b no_tab past no_delete = grind arith
