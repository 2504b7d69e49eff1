-- The places at which tasks are put.
use Rattle.std.proofs.Common.{◌≡◌, ℕ, suc, List, [], ◌∷◌, Bool, true, false, not, cond, nat_le, nat_lt, refl, ap}
use Rattle.std.specs.Prelude.{insert}
use Rattle.al_tasks.specs.Task.{Task}
use Rattle.al_tasks.specs.World.{at_head, at_tail, by_number}
use Rattle.al_tasks.specs.Queues.{first_place}

-- inserting into the rest of a list is inserting one place later
insert_later : (u : Task) (us : List Task) (place : ℕ) (t : Task) → u ∷ insert us place t ≡ insert (u ∷ us) (suc place) t
insert_later u us place t = refl

pub inserted_at_head : (t : Task) (us : List Task) → insert us (first_place (λ u. nat_le u.active t.active) us) t ≡ at_head t us
inserted_at_head t [] = refl
inserted_at_head t (u ∷ us) = at (nat_le u.active t.active) (inserted_at_head t us)
  where
    at : (b : Bool) → insert us (first_place (λ v. nat_le v.active t.active) us) t ≡ at_head t us → insert (u ∷ us) (cond b 0 (suc (first_place (λ v. nat_le v.active t.active) us))) t ≡ cond b (t ∷ u ∷ us) (u ∷ at_head t us)
    at true e = refl
    at false e = ap (λ (l : List Task). u ∷ l) e

pub inserted_at_tail : (t : Task) (us : List Task) → insert us (first_place (λ u. not (nat_le t.active u.active)) us) t ≡ at_tail t us
inserted_at_tail t [] = refl
inserted_at_tail t (u ∷ us) = at (nat_le t.active u.active) (inserted_at_tail t us)
  where
    at : (b : Bool) → insert us (first_place (λ v. not (nat_le t.active v.active)) us) t ≡ at_tail t us → insert (u ∷ us) (cond (not b) 0 (suc (first_place (λ v. not (nat_le t.active v.active)) us))) t ≡ cond b (u ∷ at_tail t us) (t ∷ u ∷ us)
    at true e = ap (λ (l : List Task). u ∷ l) e
    at false e = refl

pub inserted_by_number : (t : Task) (us : List Task) → insert us (first_place (λ u. nat_lt t.number u.number) us) t ≡ by_number t us
inserted_by_number t [] = refl
inserted_by_number t (u ∷ us) = at (nat_lt t.number u.number) (inserted_by_number t us)
  where
    at : (b : Bool) → insert us (first_place (λ v. nat_lt t.number v.number) us) t ≡ by_number t us → insert (u ∷ us) (cond b 0 (suc (first_place (λ v. nat_lt t.number v.number) us))) t ≡ cond b (t ∷ u ∷ us) (u ∷ by_number t us)
    at true e = refl
    at false e = ap (λ (l : List Task). u ∷ l) e
