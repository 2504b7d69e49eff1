-- What was judged, by another view of it.
use Rattle.std.proofs.Common.{◌≡◌, Option, Some, None, Result, Ok, Err, refl}
use Rattle.al_base_fault.specs.Judging.{both, map_ok, unless}
use Rattle.al_base_fault.specs.declared.fault.Fault.{Fault}

pub both_model : {A B : Type 0} (see : A → B) (one two : Result A Fault) → map_ok (λ (b : A × A). (see b.0, see b.1)) (both one two) ≡ both (map_ok see one) (map_ok see two)
both_model see (Ok a) (Ok b) = refl
both_model see (Ok a) (Err g) = refl
both_model see (Err f) (Ok b) = refl
both_model see (Err f) (Err g) = refl

-- with one more rule
pub seen_unless : {A B : Type 0} (see : A → B) (fault : Option Fault) (checked : Result A Fault) → map_ok see (unless fault checked) ≡ unless fault (map_ok see checked)
seen_unless see None checked = refl
seen_unless see (Some f) (Ok a) = refl
seen_unless see (Some f) (Err g) = refl
