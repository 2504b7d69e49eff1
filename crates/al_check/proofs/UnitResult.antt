-- What is found under every table that agrees with a log.
use Rattle.std.proofs.Common.{◌≡◌, Result, Ok, Err, subst, ◌∙◌}
use Rattle.std.specs.Prelude.{IfOk}
use Rattle.al_query.specs.Reads.{Agrees, Log, Table, FromAnswers}
use Rattle.al_check_bounded.specs.Verdicts.{Verdict, verdict_of}
use Rattle.al_check_bounded.specs.declared.finding.UnitResult.{UnitResult}

pub if_ok : {X E : Type 0} (r : Result X E) (P Q : X → Type 0) → ((x : X) → P x → Q x) → IfOk r P → IfOk r Q
if_ok (Ok x) P Q f h = f x h
if_ok (Err e) P Q f h = h

pub if_both : {X E : Type 0} (r : Result X E) (P Q S : X → Type 0) → ((x : X) → P x → Q x → S x) → IfOk r P → IfOk r Q → IfOk r S
if_both (Ok x) P Q S f p q = f x p q
if_both (Err e) P Q S f p q = p

-- who is asked is the same under another name
pub agrees_too : {A : Type 0} (table : A → Table) (a b : A) (log : Log) → a ≡ b → Agrees (table a) log → Agrees (table b) log
agrees_too {A} table a b log h agrees = subst (λ (x : A). Agrees (table x) log) h agrees

-- a verdict that comes from the log up to it, if nothing more was asked
pub told_here : (before middle : Log) (found : UnitResult) (verdict : Verdict) (claim : Table → Type 0) (by : Table → Verdict) → FromAnswers before middle claim → ((t : Table) → claim t → verdict ≡ by t)
    → found.log ≡ middle → verdict_of found.finding ≡ verdict → FromAnswers before found.log (λ t. verdict_of found.finding ≡ by t)
told_here before middle found verdict claim by first step same is t h =
    let start = first t (subst (λ (l : Log). Agrees t l) same h) in
    (start.0, is ∙ step t start.1)
