-- What is known of a result if it is no error.
use Rattle.std.proofs.Common.{Result, Ok, Err}
use Rattle.std.specs.Prelude.{IfOk, OnOk}

module _ {X E : Type 0} where
  pub on_ok : (r : Result X E) (P Q : X → Type 0) → ((x : X) → P x → Q x) → IfOk r P → IfOk r Q
  on_ok (Ok x) P Q f h = f x h
  on_ok (Err e) P Q f h = h

  pub ok_then : (r : Result X E) (A B : Type 0) → (A → B) → OnOk r A → OnOk r B
  ok_then (Ok x) A B f h = f h
  ok_then (Err e) A B f h = h

  pub if_ok : (r : Result X E) (P : X → Type 0) (A : Type 0) → ((x : X) → P x → A) → IfOk r P → OnOk r A
  if_ok (Ok x) P A f h = f x h
  if_ok (Err e) P A f h = h
