-- A reply in pieces.
use Rattle.std.proofs.Common.{◌≡◌, ◌+◌, ℕ, List, [], ◌∷◌, ◌++◌, Result, Ok, Err, true, false, is_err, refl, ap, ◌∙◌, sym, append_assoc}
use Rattle.std.specs.Io.KnownBytes.{Appends}
use Rattle.al_session_stream.specs.declared.device.Device.{Device}
use Rattle.al_session_stream.specs.Output.{SinkMoment, WritesReply}
use Rattle.al_session_stream.proofs.Moments.{appends_then}

-- of no bytes each part has none
pub left-nil : (xs ys : List ℕ) → xs ++ ys ≡ [] → xs ≡ []
left-nil [] ys none = refl
left-nil (x ∷ xs) ys none = cc

pub right-nil : (xs ys : List ℕ) → xs ++ ys ≡ [] → ys ≡ []
right-nil [] ys none = none
right-nil (x ∷ xs) ys none = cc

-- one more piece
pub emits : {T : Type 0} (start mid new : SinkMoment) (before piece : List ℕ) (r : Result T Device) → Appends start.written mid.written before × (mid.faults ≡ start.faults) × (before ≡ [] → start.waits ≡ false → mid.waits ≡ false) → WritesReply mid new piece r → WritesReply start new (before ++ piece) r
emits start mid new before piece (Ok x) adds wrote = (
  appends_then start.written mid.written new.written before piece adds.0 wrote.0,
  wrote.1 ∙ adds.1,
  λ none passed. wrote.2 (right-nil before piece none) (adds.2 (left-nil before piece none) passed),
)
emits start mid new before piece (Err d) adds wrote = (
  before ++ wrote.0,
  (wrote.1.0, ap (λ p. before ++ p) wrote.1.1 ∙ sym (append_assoc before wrote.0 wrote.1.0)),
  appends_then start.written mid.written new.written before wrote.0 adds.0 wrote.2,
  wrote.3 ∙ ap (λ n. n + 1) adds.1,
  wrote.4,
  λ none passed. wrote.5 (right-nil before wrote.0 none) (adds.2 (left-nil before wrote.0 none) passed),
)

-- nothing more is written after a failure
pub stays : (start now : SinkMoment) (before piece : List ℕ) (r : Result (Unit {0}) Device) → is_err r ≡ true → WritesReply start now before r → WritesReply start now (before ++ piece) r
stays start now before piece (Ok x) e wrote = cc
stays start now before piece (Err d) e wrote = (wrote.0, (wrote.1.0 ++ piece, ap (λ b. b ++ piece) wrote.1.1 ∙ append_assoc wrote.0 wrote.1.0 piece), wrote.2, wrote.3, wrote.4, wrote.5)

-- what was written without a failure
pub wrote_all : (start now : SinkMoment) (before : List ℕ) (r : Result (Unit {0}) Device) → is_err r ≡ false → WritesReply start now before r → Appends start.written now.written before × (now.faults ≡ start.faults) × (before ≡ [] → start.waits ≡ false → now.waits ≡ false)
wrote_all start now before (Ok x) e wrote = wrote
wrote_all start now before (Err d) e wrote = cc
