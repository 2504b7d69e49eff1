-- What is judged, by another view of it.
use Rattle.std.proofs.Common.{◌≡◌, List, ◌∷◌, ◌++◌, [], Option, Some, None, Result, Ok, Err, refl, sym, ap, append_assoc}
use Rattle.al_base_fault.specs.declared.fault.Fault.{Fault}
use Rattle.al_base_fault.specs.Judging.{both, next, map_ok, unless}

-- the second of two, after one more rule
pub seen_second : {A B C : Type 0} (see : B → C) (fault : Option Fault) (one : Result A Fault) (two : Result B Fault) → map_ok (λ (p : A × B). (p.0, see p.1)) (unless fault (both one two)) ≡ unless fault (both one (map_ok see two))
seen_second see None (Ok a) (Ok b) = refl
seen_second see None (Ok a) (Err g) = refl
seen_second see None (Err f) (Ok b) = refl
seen_second see None (Err f) (Err g) = refl
seen_second see (Some h) (Ok a) (Ok b) = refl
seen_second see (Some h) (Ok a) (Err g) = refl
seen_second see (Some h) (Err f) (Ok b) = refl
seen_second see (Some h) (Err f) (Err g) = refl

-- nothing before it
pub seen_same : {X : Type 0} (checked : Result (List X) Fault) → map_ok (λ xs. [] ++ xs) checked ≡ checked
seen_same (Ok xs) = refl
seen_same (Err f) = refl

-- one more before it
pub seen_after : {X : Type 0} (front : List X) (x : X) (checked : Result (List X) Fault) → map_ok (λ xs. front ++ xs) (map_ok (λ xs. x ∷ xs) checked) ≡ map_ok (λ xs. (front ++ x ∷ []) ++ xs) checked
seen_after front x (Ok xs) = ap Ok (sym (append_assoc front (x ∷ []) xs))
seen_after front x (Err f) = refl
