-- What is judged, by another view of it.
use Rattle.std.proofs.Common.{◌≡◌, Option, Some, None, Result, Ok, Err, refl}
use Rattle.al_base_fault.specs.Judging.{both, map_ok, unless}
use Rattle.al_base_fault.specs.declared.fault.Fault.{Fault}

pub seen_unless : {A B : Type 0} (see : A → B) (fault : Option Fault) (judged : Result A Fault) → map_ok see (unless fault judged) ≡ unless fault (map_ok see judged)
seen_unless see None judged = refl
seen_unless see (Some f) (Ok a) = refl
seen_unless see (Some f) (Err g) = refl

pub seen_both : {A B C : Type 0} (see : B → C) (one : Result A Fault) (two : Result B Fault) → both one (map_ok see two) ≡ map_ok (λ p. (p.0, see p.1)) (both one two)
seen_both see (Ok a) (Ok b) = refl
seen_both see (Ok a) (Err g) = refl
seen_both see (Err f) (Ok b) = refl
seen_both see (Err f) (Err g) = refl
