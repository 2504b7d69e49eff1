-- What the places of a log's questions lead to, and what one more question does to them.
use Rattle.std.proofs.Common.{◌≡◌, ℕ, zero, suc, Bool, true, false, cond, List, [], ◌∷◌, ◌++◌, length, Option, Some, None, Bor, option_copied, option_map, slice_get, refl, sym, ◌∙◌, ap, subst}
use Rattle.std.specs.Map.{lookup}
use Rattle.std.specs.Slice.{IsItemAt}
use Rattle.std.proofs.lemmas.Option.{slice_get-get_or, slice_get_past}
use Rattle.al_query.specs.declared.query.Query.{Query}
use Rattle.al_query.specs.declared.answer.AnswerKind.{AnswerKind}
use Rattle.al_query.specs.Places.{AreIndexed, place_of}
use Rattle.al_query.specs.Queries.{same_query}
use Rattle.al_query.specs.QueryLaws.{same_query-equiv, same_query-one}
use Rattle.al_query.specs.Reads.{Log, recorded}

-- the answer at a place, if there is one
abbrev pub answer_at : Log → Option ℕ → Option AnswerKind
answer_at log None = None
answer_at log (Some i) = option_map (λ e. e.1) (slice_get log i)

-- the answer at a question's place is the recorded one
at_place : (log : Log) (q : Query) → answer_at log (place_of log q) ≡ recorded log q
at_place [] q = refl
at_place (e ∷ es) q = at (same_query q e.0) (at_place es q)
  where
    next : (o : Option ℕ) → answer_at (e ∷ es) (option_map suc o) ≡ answer_at es o
    next None = refl
    next (Some i) = refl

    at : (b : Bool) → answer_at es (place_of es q) ≡ recorded es q → answer_at (e ∷ es) (cond b (Some zero) (option_map suc (place_of es q))) ≡ cond b (Some e.1) (recorded es q)
    at true rest = refl
    at false rest = next (place_of es q) ∙ rest

-- where the index finds a place or none
pub recorded_at : (log : Log) (places : List (Query × ℕ)) (q : Query) (o : Option ℕ) → AreIndexed log places → o ≡ lookup (same_query q) places → answer_at log o ≡ recorded log q
recorded_at log places q o indexed is = ap (answer_at log) (is ∙ indexed q) ∙ at_place log q

-- what is lent of a list at a place
item_at : {X : Type 0} (xs : List X) (i : ℕ) (r : Option (Bor X)) → IsItemAt xs i r → option_copied r ≡ slice_get xs i
item_at xs i None item = sym (slice_get_past xs i item.3)
item_at xs i (Some x) item = ap Some (item.3.1 x.now) ∙ sym (slice_get-get_or xs i x.now item.3.0)

pub lent_at : {X : Type 0} (xs ys : List X) (i : ℕ) (r : Option (Bor X)) → ys ≡ xs → IsItemAt ys i r → option_copied r ≡ slice_get xs i
lent_at xs ys i r is item = item_at ys i r item ∙ ap (λ l. slice_get l i) is

-- a question that the log lacks has its place at the end
place_pushed : (log : Log) (k q : Query) (a : AnswerKind) → recorded log k ≡ None → place_of (log ++ (k, a) ∷ []) q ≡ cond (same_query k q) (Some (length log)) (place_of log q)
place_pushed [] k q a lacks = ap (λ (b : Bool). cond b (Some zero) None) (same_query-equiv.symm q k)
place_pushed (e ∷ es) k q a lacks = at (same_query q e.0) (same_query k q) refl refl (place_pushed es k q a (tail (same_query k e.0) lacks))
  where
    tail : (b : Bool) → cond b (Some e.1) (recorded es k) ≡ None → recorded es k ≡ None
    tail true h = absurd (cc)
    tail false h = h

    first : same_query q e.0 ≡ true → same_query k q ≡ true → ⊥
    first here one =
        let there : same_query k e.0 ≡ true = subst (λ (x : Query). same_query x e.0 ≡ true) (sym (same_query-one k q one)) here in
        let some : cond true (Some e.1) (recorded es k) ≡ None = ap (λ (b : Bool). cond b (Some e.1) (recorded es k)) (sym there) ∙ lacks in
        absurd (cc)

    at : (b c : Bool) → same_query q e.0 ≡ b → same_query k q ≡ c → place_of (es ++ (k, a) ∷ []) q ≡ cond (same_query k q) (Some (length es)) (place_of es q) → cond b (Some zero) (option_map suc (place_of (es ++ (k, a) ∷ []) q)) ≡ cond c (Some (suc (length es))) (cond b (Some zero) (option_map suc (place_of es q)))
    at true true here one rest = absurd (first here one)
    at true false here one rest = refl
    at false true here one rest = ap (option_map suc) (rest ∙ ap (λ (b : Bool). cond b (Some (length es)) (place_of es q)) one)
    at false false here one rest = ap (option_map suc) (rest ∙ ap (λ (b : Bool). cond b (Some (length es)) (place_of es q)) one)

-- the index after one more question
pub indexed-pushed : (log new : Log) (places more : List (Query × ℕ)) (q k : Query) (a : AnswerKind) (at : ℕ) → AreIndexed log places → recorded log q ≡ None → k ≡ q → at ≡ length log → ((x : Query) → lookup (same_query x) more ≡ cond (same_query k x) (Some at) (lookup (same_query x) places)) → new ≡ log ++ (q, a) ∷ [] → AreIndexed new more
indexed-pushed log new places more q k a at indexed lacks same last updates is x =
    updates x ∙ ap (λ (o : Option ℕ). cond (same_query k x) (Some at) o) (indexed x)
    ∙ ap (λ (y : Query). cond (same_query y x) (Some at) (place_of log x)) same
    ∙ ap (λ (n : ℕ). cond (same_query q x) (Some n) (place_of log x)) last
    ∙ sym (ap (λ (l : Log). place_of l x) is ∙ place_pushed log q x a lacks)
