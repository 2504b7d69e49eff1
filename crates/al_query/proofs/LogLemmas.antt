-- What agreeing with a log says of a question in it.
use Rattle.std.proofs.Common.{◌≡◌, List, [], ◌∷◌, ◌++◌, Bool, true, false, cond, Some, Result, Ok, IfOk, refl, sym, ◌∙◌, ap, subst}
use Rattle.al_query.specs.declared.query.Query.{Query}
use Rattle.al_query.specs.declared.answer.AnswerKind.{AnswerKind}
use Rattle.al_query.specs.Queries.{same_query}
use Rattle.al_query.specs.Reads.{Agrees, recorded}
use Rattle.al_query.specs.QueryLaws.{same_query-one}

-- a table that agrees with a log gives a recorded question its recorded answer
pub agrees-recorded : (t : Query → AnswerKind) (log : List (Query × AnswerKind)) (q : Query) (a : AnswerKind) → Agrees t log → recorded log q ≡ Some a → t q ≡ a
agrees-recorded t [] q a h r = absurd (cc)
agrees-recorded t (e ∷ es) q a h r = at (same_query q e.0) refl r (agrees-recorded t es q a h.1)
  where
    at : (b : Bool) → same_query q e.0 ≡ b → cond b (Some e.1) (recorded es q) ≡ Some a → (recorded es q ≡ Some a → t q ≡ a) → t q ≡ a
    at true i r rest = let k : e.1 ≡ a = cc in ap t (same_query-one q e.0 i) ∙ h.0 ∙ k
    at false i r rest = rest r

-- a longer log that a table agrees with
pub agrees-push : (t : Query → AnswerKind) (log : List (Query × AnswerKind)) (q : Query) (a : AnswerKind) → Agrees t (log ++ (q, a) ∷ []) → Agrees t log × (t q ≡ a)
agrees-push t [] q a h = (tt, h.0)
agrees-push t (e ∷ es) q a h =
    let tail = agrees-push t es q a h.1 in
    ((h.0, tail.0), tail.1)

pub agrees-pushed : (t : Query → AnswerKind) (log : List (Query × AnswerKind)) (q : Query) (a : AnswerKind) → Agrees t log → t q ≡ a → Agrees t (log ++ (q, a) ∷ [])
agrees-pushed t [] q a h e = (e, tt)
agrees-pushed t (x ∷ xs) q a h e = (h.0, agrees-pushed t xs q a h.1 e)

-- the log after a push that may have failed
pub agrees-pushed_if : (t : Query → AnswerKind) (log : List (Query × AnswerKind)) (q k : Query) (a : AnswerKind) (b : Bool) → k ≡ q → Agrees t log → t q ≡ a → Agrees t (cond b (log ++ (k, a) ∷ []) log)
agrees-pushed_if t log q k a true same h e = agrees-pushed t log k a h (ap t same ∙ e)
agrees-pushed_if t log q k a false same h e = h

-- the same, told by equations
pub agrees-push_is : (t : Query → AnswerKind) (log new : List (Query × AnswerKind)) (q asked : Query) (a k : AnswerKind) → new ≡ log ++ (q, k) ∷ [] → q ≡ asked → k ≡ a → Agrees t new → Agrees t log × (t asked ≡ a)
agrees-push_is t log new q asked a k is one same h =
    let both = agrees-push t log q k (subst (λ (l : List (Query × AnswerKind)). Agrees t l) is h) in
    (both.0, sym (ap t one) ∙ both.1 ∙ same)

-- what a call gave, where the same result was handed on
pub handed_on : {X E : Type 0} (given : Result X E) (x y : X) → Ok x ≡ given → IfOk given (λ z. z ≡ y) → x ≡ y
handed_on given x y same holds = subst (λ r. IfOk r (λ z. z ≡ y)) (sym same) holds
