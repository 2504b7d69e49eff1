-- A frame is read in two parts.
use Rattle.std.proofs.Common.{◌≡◌, ℕ, ◌+◌, ◌≤◌, List, ◌++◌, length, length-append, Option, Some, Result, Ok, Err, ap, sym, ◌∙◌, arith, inl}
use Rattle.al_session_stream.specs.Input.{Moment, Reads, Stops}
use Rattle.al_session_stream.proofs.Moments.{reads_then, stops_then}
use Rattle.al_lsp.specs.declared.frame.Frame.{Frame}
use Rattle.al_lsp.specs.declared.frame.Frame.TheVariants.{Body, End, Broken}
use Rattle.al_lsp.specs.declared.frame.ReadError.{ReadError}
use Rattle.al_lsp.specs.declared.frame.ReadError.TheVariants.{Memory, Device}
use Rattle.al_lsp.specs.Heads.{length_told}
use Rattle.al_lsp.specs.Frames.{IsHead, ReadsFrame}
use Rattle.al_lsp.specs.Reading.{ReadsTail}

pub frame_after : {a b : Moment} (c : Moment) (most most_head len : ℕ) (head : List ℕ) (r : Result Frame ReadError) → IsHead head → length_told most head ≡ Some len → Reads a b head (length head) → ReadsTail len b c r → ReadsFrame most most_head a c r
frame_after {a} {b} c most most_head len head (Ok (Body body)) is told reads tail = record {
  head = head;
  is_head = is;
  told = told ∙ ap Some (sym tail.0);
  reads = reads_then _ (omega (arith, length-append head body.items)) reads tail.1;
}
frame_after {a} {b} c most most_head len head (Ok End) is told reads tail = absurd tail
frame_after {a} {b} c most most_head len head (Ok Broken) is told reads tail = (head ++ tail.0, reads_then _ (omega (arith, length-append head tail.0)) reads tail.1, inl tail.2)
frame_after {a} {b} c most most_head len head (Err Device) is told reads tail = (head ++ tail.0, stops_then (omega arith) reads tail.1)
frame_after {a} {b} c most most_head len head (Err Memory) is told reads tail = tt
