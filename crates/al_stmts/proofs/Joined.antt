-- Statements that were walked over, put together.
use Rattle.std.proofs.Common.{◌≡◌, List, ◌++◌, Result, Ok, Err, refl, rules, ap, ◌∙◌}
use Rattle.std.specs.Prelude.{IfOk, OnOk}
use Rattle.al_stmts.specs.Checking.{Checked, all_checked, checked_after, one_checked}
use Rattle.al_view_typed.specs.UnitTrees.{BodyTree}
use Rattle.al_stmts.specs.Steps.{Walked, joined, nothing}

abbrev pub walked : Checked → List BodyTree → Walked
walked checked bodies = record { checked = checked; bodies = bodies }

pub joined_as : (a b : Walked) (checked : Checked) (bodies : List BodyTree) → checked ≡ checked_after a.checked b.checked → bodies ≡ a.bodies ++ b.bodies → walked checked bodies ≡ joined a b
unfolding joined
joined_as a b checked bodies c s = ap (λ (k : Checked). walked k bodies) c ∙ ap (λ (k : List BodyTree). walked (checked_after a.checked b.checked) k) s

pub on_ok : {A E : Type 0} (r : Result A E) (P Q : Type 0) → (P → Q) → OnOk r P → OnOk r Q
on_ok (Ok a) P Q f h = f h
on_ok (Err e) P Q f h = search rules

nothing_first : (b : Walked) → joined nothing b ≡ b
unfolding joined nothing
nothing_first b = refl

pub joined_first : (a b : Walked) → a ≡ nothing → joined a b ≡ b
joined_first a b e = ap (λ (k : Walked). joined k b) e ∙ nothing_first b

pub if_ok : {A E : Type 0} (r : Result A E) (P Q : A → Type 0) → ((a : A) → P a → Q a) → IfOk r P → IfOk r Q
if_ok (Ok a) P Q f h = f a h
if_ok (Err e) P Q f h = search rules

pub walked_by : (a b : Checked) (bodies : List BodyTree) → a ≡ b → walked a bodies ≡ walked b bodies
walked_by a b bodies e = ap (λ (k : Checked). walked k bodies) e
