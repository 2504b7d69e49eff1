-- What the steps of one unit make of it.
use Rattle.std.proofs.Common.{◌≡◌, ℕ, Bool, List, [], ◌∷◌, Option, Some, None, Result, Ok, Err, refl, map}
use Rattle.std.specs.Prelude.{OnOk}
use Rattle.std.specs.List.{list_all}
use Rattle.al_base.specs.Batch.{key_of}
use Rattle.al_base.specs.declared.unit_key.UnitKey.{UnitKey}
use Rattle.al_query.specs.declared.answer.AnswerKind.{AnswerKind}
use Rattle.al_query.specs.declared.query.Query.{Query}
use Rattle.al_query_outcome.specs.Equations.{unit_named}
use Rattle.al_engine_refresh.specs.EntryLaw.{HasCurrent, IsCurrent}
use Rattle.al_engine_refresh.specs.Stored.{Stored}

-- what holds of all units holds of all their keys
pub all-keys : (P : UnitKey → Bool) (us : List UnitKey) → list_all P us ≡ list_all (λ k. P (unit_named k)) (map key_of us)
all-keys P [] = refl
all-keys P (u ∷ us) = rw (all-keys P us) refl

-- an entry that may be used again is one
pub current-some : (o : Option Stored) (text : List ℕ) (t : Query → AnswerKind) → HasCurrent o text t → (e : Stored) × (o ≡ Some e) × IsCurrent e text t
current-some None text t h = absurd h
current-some (Some e) text t h = (e, refl, h)

-- what follows from a result
pub on_ok : {A E : Type 0} (r : Result A E) (P Q : Type 0) → (P → Q) → OnOk r P → OnOk r Q
on_ok (Ok a) P Q f h = f h
on_ok (Err e) P Q f h = h
