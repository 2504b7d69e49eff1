-- The cut of bytes at the first place of one of them.
use Rattle.std.specs.Prelude.{◌≡◌, ◌≢◌, ℕ, ◌==◌, List, [], ◌∷◌, ◌++◌, Option, Some, None, if◌then◌else◌}
use Rattle.std.specs.List.{All}

-- a cut with one more byte before it
abbrev pub onto : ℕ → Option (List ℕ × List ℕ) → Option (List ℕ × List ℕ)
onto b None = None
onto b (Some cut) = Some (b ∷ cut.0, cut.1)

-- what precedes the first place of that byte, and what follows it
abbrev pub cut_at : ℕ → List ℕ → Option (List ℕ × List ℕ)
cut_at byte [] = None
cut_at byte (b ∷ bs) = if b == byte then Some ([], bs) else onto b (cut_at byte bs)

-- the byte isn't in these bytes
abbrev pub Lacks : ℕ → List ℕ → Type 0
Lacks byte bytes = All (λ b. b ≢ byte) bytes

-- the two parts and the byte between them are the whole, and the first part lacks the byte; if there is no cut, the whole lacks it
abbrev pub CutsFirst : ℕ → List ℕ → Option (List ℕ × List ℕ) → Type 0
CutsFirst byte bytes None = Lacks byte bytes
CutsFirst byte bytes (Some cut) = (bytes ≡ cut.0 ++ byte ∷ cut.1) × Lacks byte cut.0

-- each cut is at the first place
abbrev pub CutLaw : Type 0
CutLaw = (byte : ℕ) (bytes : List ℕ) → CutsFirst byte bytes (cut_at byte bytes)
