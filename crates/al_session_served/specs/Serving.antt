-- A whole session over a reader and a writer.
use Rattle.std.specs.Prelude.{◌≡◌, ℕ, suc, ◌+◌, ◌^◌, ◌<◌, ◌≤◌, ◌⊎◌, Bool, true, false, List, ◌++◌, length, Option, Some, None}
use Rattle.std.specs.Io.KnownBytes.{Appends, Consumes}
use Rattle.al_session_stream.specs.Input.{SourceMoment}
use Rattle.al_session_stream.specs.Output.{IsFront, SinkMoment}
use Rattle.al_session_served.specs.declared.serving.Ended.{Ended}
use Rattle.al_session_served.specs.Library.{State, Meaning}
use Rattle.al_session_served.specs.Lines.{Command, Quit, BadLength, first}
use Rattle.al_session_served.specs.Session.{Outcome, IsSession}

-- these are all the bytes that the reader gives, if its type says
abbrev pub IsInput : Option (List ℕ) → List ℕ → Type 0
IsInput None input = Unit {0}
IsInput (Some bytes) input = bytes ≡ input

-- a command after which the session goes on
abbrev pub GoesOn : Command → Type 0
GoesOn Quit = ⊥
GoesOn BadLength = ⊥
GoesOn other = Unit {0}

-- A session of so many commands isn't over after these bytes: after fewer whole commands, none of which ends it, comes no whole command.
pub data IsOpen : ℕ → List ℕ → Type 0 where
  waits : {n : ℕ} {bytes : List ℕ} → first false bytes ≡ None → IsOpen (suc n) bytes
  goes_on : {n : ℕ} {bytes rest : List ℕ} {command : Command} → first false bytes ≡ Some (command, rest) → GoesOn command → IsOpen n rest → IsOpen (suc n) bytes

-- The reader was called at most once for each byte and once for the end, and never after the session was over: before the last call it wasn't over
-- with the bytes that had come.
pub record IsCalledInNeed (commands : ℕ) (input : List ℕ) (before after : ℕ) : Type 0 where
  pub early : List ℕ
  pub late : List ℕ
  pub parts : input ≡ early ++ late
  pub unfinished : IsOpen commands early
  pub few : after ≤ before + (length early + 1)

abbrev pub Calls : ℕ → List ℕ → ℕ → ℕ → Type 0
Calls commands input before after = (after ≤ before) ⊎ IsCalledInNeed commands input before after

-- The session went through to its end: what was written, the library and the end are those of the session over the input. No device failed, no more
-- was read than needed, and all replies were passed on.
pub record Serves (m : Meaning) (commands : ℕ) (reader reader_after : SourceMoment) (writer writer_after : SinkMoment) (before after : State) (ended : Ended) : Type 0 where
  pub input : List ℕ
  pub marks : List Bool
  pub adds : IsInput reader.ahead input
  pub all : Outcome
  pub is_session : IsSession m true commands before marks input all
  pub replies : Appends writer.written writer_after.written all.replies
  pub state : after ≡ all.state
  pub ends : ended ≡ all.ended
  pub no_fault : (reader_after.faults ≡ reader.faults) × (writer_after.faults ≡ writer.faults)
  pub calls : Calls commands input reader.pulls reader_after.pulls
  pub passed : writer.waits ≡ false → writer_after.waits ≡ false

-- why a session couldn't read on: a call of the reader failed, or each of so many calls gave some byte and the session wasn't over
abbrev pub LacksInput : ℕ → List ℕ → SourceMoment → SourceMoment → Type 0
LacksInput pulls input reader reader_after =
    (reader_after.faults ≡ reader.faults + 1)
    ⊎ ((reader_after.faults ≡ reader.faults) × (reader_after.pulls ≡ reader.pulls + pulls) × (pulls ≤ length input))

-- The reader failed: what was written and the library are those of the commands that are whole in the bytes that were read, and their replies were
-- passed on before.
pub record StopsReading (m : Meaning) (commands pulls : ℕ) (reader reader_after : SourceMoment) (writer writer_after : SinkMoment) (before after : State) : Type 0 where
  pub input : List ℕ
  pub marks : List Bool
  pub adds : Consumes reader.ahead reader_after.ahead input
  pub unfinished : IsOpen commands input
  pub cause : LacksInput pulls input reader reader_after
  pub all : Outcome
  pub is_session : IsSession m false commands before marks input all
  pub replies : Appends writer.written writer_after.written all.replies
  pub state : after ≡ all.state
  pub no_fault : writer_after.faults ≡ writer.faults
  pub passed : writer.waits ≡ false → writer_after.waits ≡ false

-- The writer failed: so many replies were passed on, and a prefix of the next one was written; the library is that after its command.
pub record StopsWriting (m : Meaning) (commands : ℕ) (reader : SourceMoment) (writer writer_after : SinkMoment) (before after : State) : Type 0 where
  pub input : List ℕ
  pub marks : List Bool
  pub count : ℕ
  pub in_range : count < commands
  pub adds : IsInput reader.ahead input
  -- the session of so many commands, and that of one more
  pub before_it : Outcome
  pub with_it : Outcome
  pub is_before : IsSession m true count before marks input before_it
  pub is_with : IsSession m true (count + 1) before marks input with_it
  pub out : List ℕ
  pub written : Appends writer.written writer_after.written out
  pub no_less : IsFront before_it.replies out
  pub no_more : IsFront out with_it.replies
  pub state : after ≡ with_it.state
  pub fault : writer_after.faults ≡ writer.faults + 1
  pub passed : out ≡ before_it.replies → writer.waits ≡ false → writer_after.waits ≡ false

-- A session over bytes in memory went through to its end: the replies and the library are those of the session over these bytes.
pub record ServesBytes (m : Meaning) (input : List ℕ) (before after : State) (replies : List ℕ) : Type 0 where
  pub marks : List Bool
  pub all : Outcome
  pub is_session : IsSession m true 1000000 before marks input all
  pub replies_are : replies ≡ all.replies
  pub state : after ≡ all.state

-- The session needed more calls of the reader than it may have: the library is that of the commands that are whole in the bytes that were read, at
-- least one byte for each call.
pub record StopsReadingBytes (m : Meaning) (input : List ℕ) (before after : State) : Type 0 where
  pub read : List ℕ
  pub unread : List ℕ
  pub marks : List Bool
  pub parts : input ≡ read ++ unread
  pub many : 2 ^ 31 ≤ length read
  pub unfinished : IsOpen 1000000 read
  pub all : Outcome
  pub is_session : IsSession m false 1000000 before marks read all
  pub state : after ≡ all.state

-- Memory for a reply was refused: the library is that after its command.
pub record StopsWritingBytes (m : Meaning) (input : List ℕ) (before after : State) : Type 0 where
  pub marks : List Bool
  pub count : ℕ
  pub in_range : count < 1000000
  pub all : Outcome
  pub is_session : IsSession m true (count + 1) before marks input all
  pub state : after ≡ all.state
