-- What follows from what was read.
use Rattle.std.proofs.Common.{◌≡◌, IfOk, Result, Ok, Err, ap, ◌∙◌, rules}
use Rattle.std.specs.Prelude.{OnOk}
use Rattle.al_base_fault.specs.declared.fault.Fault.{Fault}
use Rattle.al_view_typed.specs.StatementTrees.{StatementTree}
use Rattle.al_stmts.specs.Steps.{Walked, alone_of}
use Rattle.al_stmts.specs.Readings.{giving}

-- what follows from a value follows from a result that may have it
pub if_ok : {A E : Type 0} (r : Result A E) (P Q : A → Type 0) → ((a : A) → P a → Q a) → IfOk r P → IfOk r Q
if_ok (Ok a) P Q f h = f a h
if_ok (Err e) P Q f h = search rules

pub on_ok : {A E : Type 0} (r : Result A E) (P Q : Type 0) → (P → Q) → OnOk r P → OnOk r Q
on_ok (Ok a) P Q f h = f h
on_ok (Err e) P Q f h = search rules

-- what goes on with what was read
pub goes_on : {H A B : Type 0} (next : H → A → B) (env : H) (seen : A) (read : H × A) → giving env seen ≡ read → next env seen ≡ next read.0 read.1
goes_on {H} {A} next env seen read e = ap (λ (p : H × A). next p.0 p.1) e

-- by what was read, and by what was made of it
pub made_of : {H A B : Type 0} (make : A → B) (env : H) (seen : A) (made : B) (read : H × A) → giving env seen ≡ read → made ≡ make seen → giving env made ≡ (giving read.0 (make read.1))
made_of {H} {A} {B} make env seen made read e f = ap (λ (b : B). giving env b) f ∙ ap (λ (p : H × A). giving p.0 (make p.1)) e

pub as_made : {H B : Type 0} (env : H) (made answered : B) → made ≡ answered → giving env made ≡ (giving env answered)
as_made {H} {B} env made answered e = ap (λ (b : B). giving env b) e
