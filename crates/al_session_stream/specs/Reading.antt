-- What reading a line or a block takes of the input.
use Rattle.std.specs.Prelude.{◌≡◌, ◌≢◌, ℕ, ◌+◌, ◌≤◌, Bool, true, false, ◌⊎◌, List, [], ◌∷◌, ◌++◌, length, take, slice_index, None, Result, Ok, Err}
use Rattle.std.specs.Io.KnownBytes.{IsAtEnd}
use Rattle.al_session_stream.specs.declared.device.Device.{Device}
use Rattle.al_session_stream.specs.declared.device.Device.TheVariants.{Read}
use Rattle.al_session_stream.specs.Input.{Moment, Reads, Stops}
use Rattle.al_session_stream.specs.Cuts.{cut_at}

-- bytes of one line, of which the first 601 are kept
pub record IsLine (bytes line : List ℕ) : Type 0 where
  pub no_end : cut_at 10 bytes ≡ None
  pub kept : line ≡ take 601 bytes

-- a line, with the line end after it or up to the end of the input, or a prefix of the line before a failure; each pull gives a byte of it, except
-- the one that finds the end
abbrev pub ReadsLine : Moment → Moment → List ℕ → Result Bool Device → Type 0
ReadsLine old new line (Ok true) = (bytes : List ℕ) × IsLine bytes line × Reads old new (bytes ++ 10 ∷ []) (length bytes + 1)
ReadsLine old new line (Ok false) = (bytes : List ℕ) × IsLine bytes line × Reads old new bytes (length bytes + 1) × IsAtEnd new.ahead
ReadsLine old new line (Err fault) = (bytes : List ℕ) × (cut_at 10 bytes ≡ None) × Stops old new bytes × (fault ≡ Read)

-- some bytes of a block, at most so many, by one pull at most, and none only at the end of the input
abbrev pub ReadsBlock : Moment → Moment → ℕ → (List ℕ → Type 0) → Result ℕ Device → Type 0
ReadsBlock old new most keeps (Ok count) = (bytes : List ℕ) × (length bytes ≡ count) × (count ≤ most) × keeps bytes × Reads old new bytes 1
    × (count ≡ 0 → IsAtEnd new.ahead)
ReadsBlock old new most keeps (Err fault) = Stops old new [] × (fault ≡ Read)

-- so many bytes with a line end after them, or what is malformed, or a prefix of it before a failure; each pull gives a byte of it, except the one
-- that finds the end
abbrev pub ReadsText : Moment → Moment → ℕ → (List ℕ → Type 0) → Result Bool Device → Type 0
ReadsText old new len keeps (Ok true) = (bytes : List ℕ) × (length bytes ≡ len) × keeps bytes × Reads old new (bytes ++ 10 ∷ []) (len + 1)
ReadsText old new len keeps (Ok false) = (bytes : List ℕ)
    × (((length bytes ≤ len) × Reads old new bytes (length bytes + 1) × IsAtEnd new.ahead)
    ⊎ ((length bytes ≡ len + 1) × (slice_index bytes len ≢ 10) × Reads old new bytes (len + 1)))
ReadsText old new len keeps (Err fault) = (bytes : List ℕ) × (length bytes ≤ len) × Stops old new bytes × (fault ≡ Read)
