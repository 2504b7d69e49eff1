-- What is made of what was read.
use Rattle.std.proofs.Common.{◌≡◌, IfOk, Result, Ok, Err, ap, ◌∙◌, rules}
use Rattle.al_base_fault.specs.Judging.{next}
use Rattle.al_base_fault.specs.declared.fault.Fault.{Fault}
use Rattle.al_stmts.specs.Simple.{target_of}
use Rattle.al_tree_syntax.specs.ExpressionTrees.{ExpressionTree}
use Rattle.al_view_typed.specs.ExpressionTrees.{TypedTree}
use Rattle.al_stmts.specs.Readings.{Reading}
use Rattle.al_view_typed.specs.StatementTrees.{StatementTree}
use Rattle.al_stmts.specs.Steps.{Walked}
use Rattle.al_stmts.specs.Walking.{alone_at, assigned_at, assignment_walked}

pub alone_by : {H A : Type 0} (make : A → Result StatementTree Fault) (env : H) (seen : A) (read : H × A) (made : Result StatementTree Fault) → (env, seen) ≡ read → made ≡ make seen → alone_at env made ≡ alone_at read.0 (make read.1)
alone_by {H} {A} make env seen read made e f = ap (alone_at env) f ∙ ap (λ (p : H × A). alone_at p.0 (make p.1)) e

pub alone_as : {H : Type 0} (env : H) (made answered : Result StatementTree Fault) → made ≡ answered → alone_at env made ≡ alone_at env answered
alone_as env made answered e = ap (alone_at env) e

-- what goes on with what was read
pub goes_on : {H A : Type 0} (next : H → A → H × Walked) (env : H) (seen : A) (read : H × A) → (env, seen) ≡ read → next env seen ≡ next read.0 read.1
goes_on {H} {A} next env seen read e = ap (λ (p : H × A). next p.0 p.1) e

-- what follows from a value follows from a result that may have it
pub if_ok : {A E : Type 0} (r : Result A E) (P Q : A → Type 0) → ((a : A) → P a → Q a) → IfOk r P → IfOk r Q
if_ok (Ok a) P Q f h = f a h
if_ok (Err e) P Q f h = search rules

-- what is found of a target goes on with the value
pub target_read : {H : Type 0} (R : Reading H) (h : H) (n e : ExpressionTree) (env : H) (found : Result TypedTree Fault) → (env, found) ≡ R.target h n → assigned_at R env n e (next found target_of) ≡ assignment_walked R h n e
target_read {H} R h n e env found is = ap (λ (p : H × Result TypedTree Fault). assigned_at R p.0 n e (next p.1 target_of)) is
