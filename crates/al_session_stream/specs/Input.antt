-- What is known of the input at one moment, and what is read from one moment to another.
use Rattle.std.specs.Prelude.{◌≡◌, ℕ, ◌+◌, ◌*◌, ◌≤◌, ◌⊎◌, List, [], ◌∷◌, length, Option, Some, None, Result, Ok, Err}
use Rattle.std.specs.Io.KnownBytes.{Consumes, IsAtEnd, prepend_known}
use Rattle.al_session_stream.specs.declared.device.Device.{Device}
use Rattle.al_session_stream.specs.declared.device.Device.TheVariants.{Read}

-- What is known of a reader at one moment.
pub record SourceMoment : Type 0 where
  -- the bytes still to come, if the reader's type says
  pub ahead : Option (List ℕ)
  -- how many pulls have failed
  pub faults : ℕ
  -- how many pulls there have been
  pub pulls : ℕ

abbrev pub source_moment : {S : Type 0} → (S → Option (List ℕ)) → (S → ℕ) → (S → ℕ) → S → SourceMoment
source_moment ahead faults pulls source = record { ahead = ahead source; faults = faults source; pulls = pulls source }

-- What is known of a reader and of the buffer before it.
pub record Moment : Type 0 where
  -- the bytes still to come, if the reader's type says: those held in the buffer, and then the reader's
  pub ahead : Option (List ℕ)
  -- the bytes in the buffer
  pub held : List ℕ
  -- how many pulls have failed
  pub faults : ℕ
  -- how many pulls there have been
  pub pulls : ℕ
  -- how many more pulls are allowed
  pub left : ℕ

-- the moment of a reader and a buffer; the buffer is seen as the bytes in it and the pulls that are left
abbrev pub moment : {S : Type 0} → (S → Option (List ℕ)) → (S → ℕ) → (S → ℕ) → S → List ℕ × ℕ → Moment
moment ahead faults pulls source buffer = record {
  ahead = prepend_known buffer.0 (ahead source);
  held = buffer.0;
  faults = faults source;
  pulls = pulls source;
  left = buffer.1;
}

-- a bound on the bytes that can still be read
abbrev pub budget : List ℕ × ℕ → ℕ
budget buffer = buffer.1 * 4096 + length buffer.0

-- these bytes are read by at most so many pulls, none of which fails
pub record Reads (old new : Moment) (bytes : List ℕ) (most : ℕ) : Type 0 where
  pub adds : Consumes old.ahead new.ahead bytes
  pub no_fault : new.faults ≡ old.faults
  pub counted : new.pulls + new.left ≡ old.pulls + old.left
  pub few : new.pulls ≤ old.pulls + most

-- a pull fails
pub record Fails (old new : Moment) : Type 0 where
  pub counted : new.faults ≡ old.faults + 1

-- no pull fails and none is left, though each gave some of so many bytes
pub record Spends (old new : Moment) (count : ℕ) : Type 0 where
  pub no_fault : new.faults ≡ old.faults
  pub none_left : new.left ≡ 0
  pub few : new.pulls ≤ old.pulls + count

-- these bytes are read, and then the reader fails, or one more pull is needed and none is left; nothing stays in the buffer
pub record Stops (old new : Moment) (bytes : List ℕ) : Type 0 where
  pub adds : Consumes old.ahead new.ahead bytes
  pub none_held : new.held ≡ []
  pub cause : Fails old new ⊎ Spends old new (length bytes)
  pub counted : new.pulls + new.left ≡ old.pulls + old.left

-- the next byte, or that there is none
abbrev pub GivesNext : Moment → Moment → Result (Option ℕ) Device → Type 0
GivesNext old new (Ok (Some byte)) = Reads old new (byte ∷ []) 1
GivesNext old new (Ok None) = Reads old new [] 1 × IsAtEnd new.ahead
GivesNext old new (Err fault) = Stops old new [] × (fault ≡ Read)

-- one pull that succeeds gives some bytes, and none only at the end
abbrev pub GivesMore : {T : Type 0} → Moment → Moment → Result T Device → Type 0
GivesMore old new (Ok x) = Reads old new [] 1 × (length new.held ≡ 0 → IsAtEnd new.ahead)
GivesMore old new (Err fault) = Stops old new [] × (fault ≡ Read)
