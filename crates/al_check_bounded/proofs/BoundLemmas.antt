-- Questions that may be asked, and logs that agree with a table within bounds.
use Rattle.std.proofs.Common.{◌≡◌, ℕ, zero, suc, ◌+◌, add-one, Bool, true, false, cond, not, ◌&&◌, ◌||◌, List, [], ◌∷◌, ◌++◌, Some, None, is_some, refl, sym, ◌∙◌, ap, subst, drop, if◌then◌else◌}
use Rattle.std.specs.Prelude.{slice_get}
use Rattle.std.specs.List.{flat_map, list_all}
use Rattle.std.proofs.lemmas.List.Folds.{list_all-append}
use Rattle.al_view.specs.Symbols.{same_unit}
use Rattle.al_view.proofs.SymbolLemmas.{and_both, both}
use Rattle.al_query.specs.Asked.{AsksOf, OfKnown}
use Rattle.al_query.specs.Known.{has_unit, learned, predefined_units}
use Rattle.al_query.specs.Queries.{unit_of}
use Rattle.al_query.specs.Reads.{Agrees, Log, Table, logged, recorded}
use Rattle.al_query.specs.declared.query.Query.{Query}
use Rattle.al_query.specs.declared.answer.AnswerKind.{AnswerKind}
use Rattle.al_query.proofs.AskLemmas.{asks_one}
use Rattle.al_query.proofs.KnownLemmas.{has_unit-left}
use Rattle.al_query_outcome.specs.ReadsLaw.{AsksOthers, is_by_names, is_of_another}
use Rattle.al_query_outcome.specs.Tables.{no_answer}
use Rattle.al_check_bounded.specs.Bounding.{allowed, bounded, may_ask}
use Rattle.al_check_bounded.specs.declared.bounds.Bounds.{Bounds}

-- what may be asked is answered alike if the tables answer it alike
pub bounded-same : (b : Bounds) (q : Query) (t s : Table) → t q ≡ s q → bounded b t q ≡ bounded b s q
bounded-same b q t s h = ap (λ x. cond (may_ask b q) x (no_answer q)) h

-- what may not be asked is answered alike within the bounds
pub bounded-else : (b : Bounds) (q : Query) (t s : Table) → may_ask b q ≡ false → bounded b t q ≡ bounded b s q
bounded-else b q t s h = at (may_ask b q) h
  where
    at : (m : Bool) → m ≡ false → cond m (t q) (no_answer q) ≡ cond m (s q) (no_answer q)
    at true k = absurd (cc)
    at false k = refl

-- what may be asked is answered by the table
pub bounded-asked : (b : Bounds) (q : Query) (t : Table) → may_ask b q ≡ true → bounded b t q ≡ t q
bounded-asked b q t h = ap (λ (m : Bool). if m then t q else no_answer q) h

-- what may not isn't answered
pub bounded-none : (b : Bounds) (q : Query) (t : Table) → may_ask b q ≡ false → bounded b t q ≡ no_answer q
bounded-none b q t h = ap (λ (m : Bool). if m then t q else no_answer q) h

-- a question that may be asked is one of those that are allowed
pub asks-allowed : (b : Bounds) (q : Query) (a : AnswerKind) (old new : Log) → may_ask b q ≡ true → new ≡ logged old q a → AsksOf b.known (allowed b) old new
asks-allowed b q a old new h e =
    let parts = both (has_unit b.known (unit_of q)) (not (same_unit b.unit (unit_of q)) && is_by_names b.unit b.names q) h in
    asks_one (OfKnown b.known (allowed b)) old new q a (has_unit-left b.known (flat_map (λ (x : Query × AnswerKind). learned x.0 x.1) old) (unit_of q) parts.0, h) e

or-right : (b c : Bool) → c ≡ true → (b || c) ≡ true
or-right true c h = refl
or-right false c h = h

-- it is of another unit
of-another : (b : Bounds) (q : Query) → may_ask b q ≡ true → is_of_another b.unit q ≡ true
of-another b q h =
    let known = both (has_unit b.known (unit_of q)) (not (same_unit b.unit (unit_of q)) && is_by_names b.unit b.names q) h in
    let other = both (not (same_unit b.unit (unit_of q))) (is_by_names b.unit b.names q) known.1 in
    or-right (has_unit predefined_units (unit_of q)) (not (same_unit b.unit (unit_of q))) other.0

pub asks-others : (b : Bounds) (q : Query) (a : AnswerKind) (old new : Log) → may_ask b q ≡ true → new ≡ logged old q a → AsksOthers b.unit old → AsksOthers b.unit new
asks-others b q a old new h e before = subst (λ (l : Log). AsksOthers b.unit l) (sym e) (at (is_some (recorded old q)))
  where
    one : list_all (λ (x : Query × AnswerKind). is_of_another b.unit x.0) ((q, a) ∷ []) ≡ true
    one = and_both (is_of_another b.unit q) true (of-another b q h) refl

    at : (m : Bool) → AsksOthers b.unit (if m then old else old ++ (q, a) ∷ [])
    at true = before
    at false =
        list_all-append (λ (x : Query × AnswerKind). is_of_another b.unit x.0) old ((q, a) ∷ [])
        ∙ and_both (list_all (λ (x : Query × AnswerKind). is_of_another b.unit x.0) old) (list_all (λ (x : Query × AnswerKind). is_of_another b.unit x.0) ((q, a) ∷ [])) before one

-- a table that agrees gives the question at a place its answer
agrees-at : (t : Table) (log : Log) (i : ℕ) (e : Query × AnswerKind) → slice_get log i ≡ Some e → Agrees t log → t e.0 ≡ e.1
agrees-at t [] i e is h = absurd (cc)
agrees-at t (d ∷ ds) zero e is h = let same : d ≡ e = cc in subst (λ (x : Query × AnswerKind). t x.0 ≡ x.1) same h.0
agrees-at t (d ∷ ds) (suc i) e is h = agrees-at t ds i e is h.1

-- the rest from a place is the question there and the rest after it
drop-at : {X : Type 0} (xs : List X) (i : ℕ) (e : X) → slice_get xs i ≡ Some e → drop i xs ≡ e ∷ drop (suc i) xs
drop-at [] i e is = absurd (cc)
drop-at (x ∷ xs) zero e is = let same : x ≡ e = cc in ap (λ y. y ∷ xs) same
drop-at (x ∷ xs) (suc i) e is = drop-at xs i e is

drop-past : {X : Type 0} (xs : List X) (i : ℕ) → slice_get xs i ≡ None → drop i xs ≡ []
drop-past [] zero is = refl
drop-past [] (suc i) is = refl
drop-past (x ∷ xs) zero is = absurd (cc)
drop-past (x ∷ xs) (suc i) is = drop-past xs i is

-- one question more that two tables answer alike, one of which agrees with all of the log
pub agrees-more : (s t : Table) (log : Log) (i : ℕ) (e : Query × AnswerKind) → slice_get log i ≡ Some e → Agrees s log → t e.0 ≡ s e.0 → (Agrees t (drop i log) → Agrees t log) → Agrees t (drop (i + 1) log) → Agrees t log
agrees-more s t log i e is all same h rest =
    let left : drop i log ≡ e ∷ drop (i + 1) log = rw add-one (drop-at log i e is) in
    h (subst (λ (l : Log). Agrees t l) (sym left) (same ∙ agrees-at s log i e is all, rest))

-- no question is left
pub agrees-past : (t : Table) (log : Log) (i : ℕ) → slice_get log i ≡ None → Agrees t (drop i log)
agrees-past t log i is = subst (λ (l : Log). Agrees t l) (sym (drop-past log i is)) tt
