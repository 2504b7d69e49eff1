-- Questions for a name in some parts, one call after another.
use Rattle.std.proofs.Common.{◌≡◌, ℕ, Bool, true, false, ◌||◌, cond, List, [], ◌∷◌, ◌++◌, refl, sym, ◌∙◌, ap, subst, append-nil}
use Rattle.std.specs.List.{flat_map, list_any}
use Rattle.std.specs.Str.{bytes_eq}
use Rattle.std.proofs.lemmas.List.Folds.{list_any-append}
use Rattle.std.proofs.lemmas.Slice.Eq.{bytes_eq-Decides}
use Rattle.al_view.specs.Symbols.{same_unit}
use Rattle.al_view.proofs.SymbolLemmas.{same_unit-self}
use Rattle.al_query.specs.Asked.{AsksOf, Follows, OfKnown, by_name, names_after}
use Rattle.al_query.specs.Known.{has_unit, learned}
use Rattle.al_query.specs.Queries.{same_query, unit_of}
use Rattle.al_query.specs.QueryLaws.{same_query-one, same_query-self}
use Rattle.al_query.specs.Reads.{Log, logged}
use Rattle.al_query.specs.declared.answer.AnswerKind.{AnswerKind}
use Rattle.al_query.specs.declared.query.Query.{Query}
use Rattle.al_query.proofs.AskLemmas.{asks_none, asks_one, asks_then, asks_wider}
use Rattle.al_query.proofs.KnownLemmas.{has_unit-left}
use Rattle.al_scope.specs.declared.region.UnitPart.{UnitPart}
use Rattle.al_scope.specs.Asked.{AsksParts, IsFor, is_for, query_of}
use Rattle.al_scope.specs.Places.{part_units}

pub or-left : (a b : Bool) → a ≡ true → (a || b) ≡ true
or-left true b h = refl
or-left false b h = absurd (cc)

pub or-right : (a b : Bool) → b ≡ true → (a || b) ≡ true
or-right true b h = refl
or-right false b h = h

-- no question
pub parts-none : (ps : List UnitPart) (name : List ℕ) (log : Log) → AsksParts ps name log log
parts-none ps name log = asks_none (IsFor ps name) log

-- one question
pub parts-ask : (old new : Log) (q : Query) (p : UnitPart) (name : List ℕ) (a : AnswerKind) → q ≡ query_of name p → new ≡ logged old q a → AsksParts (p ∷ []) name old new
parts-ask old new q p name a is e =
    let same : same_query q (query_of name p) ≡ true = ap (same_query q) (sym is) ∙ same_query-self q in
    asks_one (IsFor (p ∷ []) name) old new q a (or-left (same_query q (query_of name p)) false same) e

-- more parts
pub parts-left : (ps qs : List UnitPart) (name : List ℕ) (old new : Log) → AsksParts ps name old new → AsksParts (ps ++ qs) name old new
parts-left ps qs name old new a =
    asks_wider (IsFor ps name) (IsFor (ps ++ qs) name)
    (λ log q m. list_any-append (λ p. same_query q (query_of name p)) ps qs ∙ or-left (is_for ps name q) (is_for qs name q) m)
    old new a

pub parts-right : (ps qs : List UnitPart) (name : List ℕ) (old new : Log) → AsksParts qs name old new → AsksParts (ps ++ qs) name old new
parts-right ps qs name old new a =
    asks_wider (IsFor qs name) (IsFor (ps ++ qs) name)
    (λ log q m. list_any-append (λ p. same_query q (query_of name p)) ps qs ∙ or-right (is_for ps name q) (is_for qs name q) m)
    old new a

-- the questions of one call, then those of another
pub parts-then : (ps qs : List UnitPart) (name : List ℕ) (old mid new : Log) → AsksParts ps name old mid → AsksParts qs name mid new → AsksParts (ps ++ qs) name old new
parts-then ps qs name old mid new one two = asks_then (IsFor (ps ++ qs) name) old mid new (parts-left ps qs name old mid one) (parts-right ps qs name mid new two)

pub parts-turned : (ps qs : List UnitPart) (name : List ℕ) (old mid new : Log) → AsksParts ps name old mid → AsksParts qs name mid new → AsksParts (qs ++ ps) name old new
parts-turned ps qs name old mid new one two = asks_then (IsFor (qs ++ ps) name) old mid new (parts-right qs ps name old mid one) (parts-left qs ps name mid new two)

-- parts by another name
pub parts-of : (ps qs : List UnitPart) (name : List ℕ) (old new : Log) → ps ≡ qs → AsksParts ps name old new → AsksParts qs name old new
parts-of ps qs name old new e a = subst (λ (l : List UnitPart). AsksParts l name old new) e a

-- none of them, or all
pub parts-if : (b : Bool) (ps : List UnitPart) (name : List ℕ) (old new : Log) → AsksParts (cond b [] ps) name old new → AsksParts ps name old new
parts-if true ps name old new a = parts-left [] ps name old new a
parts-if false ps name old new a = a

-- without parts there is no question
pub parts-nothing : (name : List ℕ) (old new : Log) → AsksParts [] name old new → new ≡ old
parts-nothing name old new a = at a.0 a.1 a.2
  where
    at : (more : Log) → new ≡ old ++ more → Follows (IsFor [] name) old more → new ≡ old
    at [] e f = e ∙ append-nil old
    at (x ∷ xs) e f = let bad : false ≡ true = f.0 in absurd (cc)

-- they are questions of the units of the parts, for the name
for-unit : (ps : List UnitPart) (name : List ℕ) (q : Query) → is_for ps name q ≡ true → has_unit (part_units ps) (unit_of q) ≡ true
for-unit [] name q h = absurd (cc)
for-unit (p ∷ ps) name q h = at (same_query q (query_of name p)) refl h (for-unit ps name q)
  where
    at : (b : Bool) → same_query q (query_of name p) ≡ b → (b || is_for ps name q) ≡ true → (is_for ps name q ≡ true → has_unit (part_units ps) (unit_of q) ≡ true) → (same_unit (unit_of q) p.unit || has_unit (part_units ps) (unit_of q)) ≡ true
    at true i k more =
        let same : same_unit (unit_of q) p.unit ≡ true = ap (λ (x : Query). same_unit (unit_of x) p.unit) (same_query-one q (query_of name p) i) ∙ same_unit-self p.unit in
        or-left (same_unit (unit_of q) p.unit) (has_unit (part_units ps) (unit_of q)) same
    at false i k more = or-right (same_unit (unit_of q) p.unit) (has_unit (part_units ps) (unit_of q)) (more k)

for-name : (ps : List UnitPart) (name : List ℕ) (log : Log) (q : Query) → is_for ps name q ≡ true → by_name (name ∷ []) log q ≡ true
for-name [] name log q h = absurd (cc)
for-name (p ∷ ps) name log q h = at (same_query q (query_of name p)) refl h (for-name ps name log q)
  where
    named : by_name (name ∷ []) log (query_of name p) ≡ true
    named = or-left (bytes_eq name name) (list_any (bytes_eq name) (names_after log)) ((bytes_eq-Decides name name).1 refl)

    at : (b : Bool) → same_query q (query_of name p) ≡ b → (b || is_for ps name q) ≡ true → (is_for ps name q ≡ true → by_name (name ∷ []) log q ≡ true) → by_name (name ∷ []) log q ≡ true
    at true i k more = subst (λ (x : Query). by_name (name ∷ []) log x ≡ true) (sym (same_query-one q (query_of name p) i)) named
    at false i k more = more k

pub parts-units : (ps : List UnitPart) (name : List ℕ) (old new : Log) → AsksParts ps name old new → AsksOf (part_units ps) (by_name (name ∷ [])) old new
parts-units ps name old new a =
    asks_wider (IsFor ps name) (OfKnown (part_units ps) (by_name (name ∷ [])))
    (λ log q m. (has_unit-left (part_units ps) (flat_map (λ (e : Query × AnswerKind). learned e.0 e.1) log) (unit_of q) (for-unit ps name q m), for-name ps name log q m))
    old new a
