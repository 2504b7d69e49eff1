-- Frames: a head that tells the length of a body, and the body.
use Rattle.std.specs.Prelude.{◌≡◌, ℕ, ◌+◌, ◌<◌, ◌⊎◌, false, true, List, [], ◌∷◌, ◌++◌, length, take, codes, decimal, Some, None, Result, Ok, Err}
use Rattle.std.specs.Io.KnownBytes.{IsAtEnd}
use Rattle.al_session_stream.specs.Input.{Moment, Reads, Stops}
use Rattle.al_lsp.specs.declared.frame.Frame.{Frame}
use Rattle.al_lsp.specs.declared.frame.Frame.TheVariants.{Body, End, Broken}
use Rattle.al_lsp.specs.declared.frame.ReadError.{ReadError}
use Rattle.al_lsp.specs.declared.frame.ReadError.TheVariants.{Memory, Device}
use Rattle.al_lsp.specs.Heads.{head_end, ends_head, length_told}

-- the bytes end in an empty line, and no fewer of them do
pub record IsHead (bytes : List ℕ) : Type 0 where
  pub ends : ends_head bytes ≡ true
  pub first : (n : ℕ) → n < length bytes → ends_head (take n bytes) ≡ false

-- the frame of a body
abbrev pub frame_of : List ℕ → List ℕ
frame_of body = codes "Content-Length: " ++ decimal (length body) ++ head_end ++ body

-- a head that tells the length of the body, and the body
pub record ReadsBody (most : ℕ) (old new : Moment) (body : List ℕ) : Type 0 where
  pub head : List ℕ
  pub is_head : IsHead head
  pub told : length_told most head ≡ Some (length body)
  pub reads : Reads old new (head ++ body) (length (head ++ body))

-- why bytes are no frame: the input ends within it, its head is too long, or tells no length
abbrev pub IsBroken : ℕ → ℕ → Moment → List ℕ → Type 0
IsBroken most most_head new bytes = IsAtEnd new.ahead ⊎ ((length bytes ≡ most_head) ⊎ (IsHead bytes × (length_told most bytes ≡ None)))

-- what is read of the input, where nothing fails; each pull gives a byte of it, but for the one that tells the end
abbrev pub ReadsFrame : ℕ → ℕ → Moment → Moment → Result Frame ReadError → Type 0
ReadsFrame most most_head old new (Ok (Body body)) = ReadsBody most old new body.items
ReadsFrame most most_head old new (Ok End) = Reads old new [] 1 × IsAtEnd new.ahead
ReadsFrame most most_head old new (Ok Broken) = (bytes : List ℕ) × Reads old new bytes (length bytes + 1) × IsBroken most most_head new bytes
ReadsFrame most most_head old new (Err Device) = (bytes : List ℕ) × Stops old new bytes
ReadsFrame most most_head old new (Err Memory) = Unit {0}
