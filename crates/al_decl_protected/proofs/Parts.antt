-- Subtypes and values of components, as they are seen.
use Rattle.std.proofs.Common.{◌≡◌, Option, Some, None, Result, Ok, Err, refl}
use Rattle.al_base_fault.specs.Judging.{both, map_ok, unless}
use Rattle.al_base_fault.specs.declared.fault.Fault.{Fault}

-- the second of two that are judged is seen otherwise
pub both_second : {A B D : Type 0} (g : B → D) (a : Result A Fault) (b : Result B Fault) → map_ok (λ (p : A × B). (p.0, g p.1)) (both a b) ≡ both a (map_ok g b)
both_second {A} {B} {D} g (Ok a) (Ok b) = refl
both_second {A} {B} {D} g (Ok a) (Err e) = refl
both_second {A} {B} {D} g (Err e) (Ok b) = refl
both_second {A} {B} {D} g (Err e) (Err x) = refl

-- what may be wrong besides comes before what is made of something
pub unless_model : {A B : Type 0} (d : Option Fault) (f : A → B) (r : Result A Fault) → unless d (map_ok f r) ≡ map_ok f (unless d r)
unless_model {A} {B} None f r = refl
unless_model {A} {B} (Some d) f (Ok a) = refl
unless_model {A} {B} (Some d) f (Err g) = refl
