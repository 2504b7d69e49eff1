-- What is kept of an output that is passed on, and of one to which nothing is written.
use Rattle.std.proofs.Common.{◌≡◌, ℕ, Bool, List, [], Option, Some, None, Result, Ok, Err, IsOk, OnOk, refl, sym, append-nil}
use Rattle.std.specs.Io.KnownBytes.{Appends}
use Rattle.al_session_stream.specs.declared.device.Device.{Device}
use Rattle.al_session_stream.specs.Output.{Adds, sink_moment}

appends_nothing : (bytes : Option (List ℕ)) → Appends bytes bytes []
appends_nothing None = tt
appends_nothing (Some xs) = sym (append-nil xs)

module _ {W : Type 0} (written : W → Option (List ℕ)) (faults : W → ℕ) (waits : W → Bool) where
  -- an output that could be passed on has no more errors than before
  pub finishes_well : (old new : W) (r : Result (Unit {0}) Device) → Adds written faults waits old new (Ok tt) r [] → IsOk r → faults new ≡ faults old
  finishes_well old new (Ok x) adds ok = (adds (sink_moment written faults waits old) [] (appends_nothing (written old), refl, λ none off. off)).1
  finishes_well old new (Err e) adds ok = cc

  pub adds_nothing : (w : W) (r : Result (Unit {0}) Device) → Adds written faults waits w w r r []
  adds_nothing w r = λ start before wrote. rw (append-nil before) wrote

-- what holds in any case holds of a result that is Ok
pub on_ok_from : {A B : Type 0} (r : Result A B) (P : Type 0) → P → OnOk r P
on_ok_from (Ok x) P p = p
on_ok_from (Err e) P p = tt
