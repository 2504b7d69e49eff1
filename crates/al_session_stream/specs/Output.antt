-- What writing a reply does.
use Rattle.std.specs.Prelude.{◌≡◌, ℕ, ◌+◌, Bool, false, List, [], ◌++◌, Option, Result, Ok, Err}
use Rattle.std.specs.Io.KnownBytes.{Appends}
use Rattle.al_session_stream.specs.declared.device.Device.{Device}
use Rattle.al_session_stream.specs.declared.device.Device.TheVariants.{Write}

-- these bytes are a prefix of those
abbrev pub IsFront : List ℕ → List ℕ → Type 0
IsFront front whole = (rest : List ℕ) × (whole ≡ front ++ rest)

-- What is known of a writer at one moment.
pub record SinkMoment : Type 0 where
  -- the bytes that were written, if the writer's type says
  pub written : Option (List ℕ)
  -- how many pushes and flushes have failed
  pub faults : ℕ
  -- something of what was written may be held back still
  pub waits : Bool

abbrev pub sink_moment : {W : Type 0} → (W → Option (List ℕ)) → (W → ℕ) → (W → Bool) → W → SinkMoment
sink_moment written faults waits writer = record { written = written writer; faults = faults writer; waits = waits writer }

-- All of the bytes are written, or a prefix of them before a failure. If no byte is written, no more is held back than before.
abbrev pub WritesReply : {T : Type 0} → SinkMoment → SinkMoment → List ℕ → Result T Device → Type 0
WritesReply old new reply (Ok x) = Appends old.written new.written reply × (new.faults ≡ old.faults) × (reply ≡ [] → old.waits ≡ false → new.waits ≡ false)
WritesReply old new reply (Err fault) = (part : List ℕ) × IsFront part reply × Appends old.written new.written part × (new.faults ≡ old.faults + 1) × (fault ≡ Write) × (part ≡ [] → old.waits ≡ false → new.waits ≡ false)

-- One more piece of a reply is written: whatever was written before, the piece comes after it, or a prefix of both comes before a failure.
abbrev pub Adds : {W : Type 0} → (W → Option (List ℕ)) → (W → ℕ) → (W → Bool) → W → W → Result (Unit {0}) Device → Result (Unit {0}) Device → List ℕ → Type 0
Adds written faults waits old new so_far result piece =
    (start : SinkMoment) (before : List ℕ) →
    WritesReply start (sink_moment written faults waits old) before so_far →
    WritesReply start (sink_moment written faults waits new) (before ++ piece) result
