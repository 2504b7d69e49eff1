-- What an answer tells is told, and stays so.
use Rattle.std.proofs.Common.{◌≡◌, ℕ, List, [], ◌∷◌, ◌++◌, Bool, true, false, cond, ◌||◌, Some, refl, sym, ◌∙◌, ap, subst}
use Rattle.std.specs.List.{flat_map, list_any}
use Rattle.std.specs.Str.{bytes_eq}
use Rattle.std.proofs.lemmas.List.Folds.{list_any-append}
use Rattle.al_query.specs.declared.query.Query.{Query}
use Rattle.al_query.specs.declared.answer.AnswerKind.{AnswerKind}
use Rattle.al_query.specs.Answers.{names_told}
use Rattle.al_query.specs.Queries.{same_query}
use Rattle.al_query.specs.Reads.{Log, recorded}
use Rattle.al_query.specs.AnsweredNames.{AreTold, told_names}
use Rattle.al_query.proofs.KnownLemmas.{flat_map-join}

or-left : (b c : Bool) → b ≡ true → (b || c) ≡ true
or-left true c h = refl
or-left false c h = absurd (cc)

or-right : (b c : Bool) → c ≡ true → (b || c) ≡ true
or-right true c h = refl
or-right false c h = h

pub any-left : (xs ys : List (List ℕ)) (n : List ℕ) → list_any (bytes_eq n) xs ≡ true → list_any (bytes_eq n) (xs ++ ys) ≡ true
any-left xs ys n h = list_any-append (bytes_eq n) xs ys ∙ or-left (list_any (bytes_eq n) xs) (list_any (bytes_eq n) ys) h

pub any-right : (xs ys : List (List ℕ)) (n : List ℕ) → list_any (bytes_eq n) ys ≡ true → list_any (bytes_eq n) (xs ++ ys) ≡ true
any-right xs ys n h = list_any-append (bytes_eq n) xs ys ∙ or-right (list_any (bytes_eq n) xs) (list_any (bytes_eq n) ys) h

-- what a recorded answer tells is told
names_answered-in : (log : Log) (q : Query) (a : AnswerKind) → recorded log q ≡ Some a → AreTold log (names_told a)
names_answered-in [] q a r n h = absurd (cc)
names_answered-in (e ∷ es) q a r n h = at (same_query q e.0) r (λ k. names_answered-in es q a k n h)
  where
    at : (b : Bool) → cond b (Some e.1) (recorded es q) ≡ Some a → (recorded es q ≡ Some a → list_any (bytes_eq n) (told_names es) ≡ true) → list_any (bytes_eq n) (names_told e.1 ++ told_names es) ≡ true
    at true r rest =
        let same : e.1 ≡ a = cc in
        any-left (names_told e.1) (told_names es) n (subst (λ (x : AnswerKind). list_any (bytes_eq n) (names_told x) ≡ true) (sym same) h)
    at false r rest = any-right (names_told e.1) (told_names es) n (rest r)

-- after more questions
pub names_answered-more : (log more new : Log) (names : List (List ℕ)) → new ≡ log ++ more → AreTold log names → AreTold new names
names_answered-more log more new names is h n m =
    subst (λ (l : Log). list_any (bytes_eq n) (told_names l) ≡ true) (sym is)
    (subst (λ (ns : List (List ℕ)). list_any (bytes_eq n) ns ≡ true) (sym (flat_map-join (λ e. names_told e.1) log more)) (any-left (told_names log) (told_names more) n (h n m)))

-- a recorded question again
pub tells-recorded : (log : Log) (q : Query) (a k : AnswerKind) → recorded log q ≡ Some k → a ≡ k → AreTold log (names_told a)
tells-recorded log q a k r same n h = names_answered-in log q k r n (subst (λ (x : AnswerKind). list_any (bytes_eq n) (names_told x) ≡ true) same h)

-- one more question
pub tells-push_is : (log new : Log) (q : Query) (a k : AnswerKind) → new ≡ log ++ (q, k) ∷ [] → k ≡ a → AreTold new (names_told a)
tells-push_is log new q a k is same n h =
    let last : list_any (bytes_eq n) (names_told k ++ []) ≡ true = any-left (names_told k) [] n (subst (λ (x : AnswerKind). list_any (bytes_eq n) (names_told x) ≡ true) (sym same) h) in
    subst (λ (l : Log). list_any (bytes_eq n) (told_names l) ≡ true) (sym is)
    (subst (λ (ns : List (List ℕ)). list_any (bytes_eq n) ns ≡ true) (sym (flat_map-join (λ e. names_told e.1) log ((q, k) ∷ []))) (any-right (told_names log) (names_told k ++ []) n last))

-- the names of two lists
pub names_answered-join : (log : Log) (ns ms : List (List ℕ)) → AreTold log ns → AreTold log ms → AreTold log (ns ++ ms)
names_answered-join log ns ms h k n m = at (list_any (bytes_eq n) ns) refl (sym (list_any-append (bytes_eq n) ns ms) ∙ m)
  where
    at : (b : Bool) → list_any (bytes_eq n) ns ≡ b → (b || list_any (bytes_eq n) ms) ≡ true → list_any (bytes_eq n) (told_names log) ≡ true
    at true is all = h n is
    at false is all = k n all

pub names_answered-none : (log : Log) (names : List (List ℕ)) → names ≡ [] → AreTold log names
names_answered-none log names is n h = let bad : false ≡ true = subst (λ (ns : List (List ℕ)). list_any (bytes_eq n) ns ≡ true) is h in absurd (cc)
