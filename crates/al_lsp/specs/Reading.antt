-- What reading the two parts of a frame takes of the input.
use Rattle.std.specs.Prelude.{◌≡◌, ℕ, ◌+◌, ◌≤◌, Bool, true, false, List, [], length, Result, Ok, Err, ◌⊎◌}
use Rattle.std.specs.Io.KnownBytes.{IsAtEnd}
use Rattle.al_session_stream.specs.Input.{Moment, Reads, Stops}
use Rattle.al_lsp.specs.declared.frame.HeadEnd.{HeadEnd}
use Rattle.al_lsp.specs.declared.frame.HeadEnd.TheVariants.{Whole, Nothing, Broken}
use Rattle.al_lsp.specs.declared.frame.ReadError.{ReadError}
use Rattle.al_lsp.specs.declared.frame.ReadError.TheVariants.{Memory, Device}
use Rattle.al_lsp.specs.declared.frame.Frame.{Frame}
use Rattle.al_lsp.specs.declared.frame.Frame.TheVariants as frame
use Rattle.al_lsp.specs.Frames.{IsHead}

abbrev pub ReadsHead : ℕ → Moment → Moment → List ℕ → Result HeadEnd ReadError → Type 0
ReadsHead most old new head (Ok Whole) = IsHead head × Reads old new head (length head)
ReadsHead most old new head (Ok Nothing) = Reads old new [] 1 × IsAtEnd new.ahead
ReadsHead most old new head (Ok Broken) = Reads old new head (length head + 1) × (IsAtEnd new.ahead ⊎ (length head ≡ most))
ReadsHead most old new head (Err Device) = Stops old new head
ReadsHead most old new head (Err Memory) = Unit {0}

-- so many bytes, or those up to the end
abbrev pub ReadsRest : ℕ → Moment → Moment → List ℕ → Result Bool ReadError → Type 0
ReadsRest len old new body (Ok true) = (length body ≡ len) × Reads old new body (length body)
ReadsRest len old new body (Ok false) = Reads old new body (length body + 1) × IsAtEnd new.ahead
ReadsRest len old new body (Err Device) = Stops old new body
ReadsRest len old new body (Err Memory) = Unit {0}

-- a body of so many bytes
abbrev pub ReadsTail : ℕ → Moment → Moment → Result Frame ReadError → Type 0
ReadsTail len old new (Ok (frame.Body body)) = (length body.items ≡ len) × Reads old new body.items (length body.items)
ReadsTail len old new (Ok frame.End) = ⊥
ReadsTail len old new (Ok frame.Broken) = (bytes : List ℕ) × Reads old new bytes (length bytes + 1) × IsAtEnd new.ahead
ReadsTail len old new (Err Device) = (bytes : List ℕ) × Stops old new bytes
ReadsTail len old new (Err Memory) = Unit {0}
