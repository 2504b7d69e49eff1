-- Which questions are asked. What a call says of this holds of several calls one after the other.
use Rattle.std.specs.Prelude.{◌≡◌, ℕ, Bool, true, false, ◌||◌, List, [], ◌∷◌, ◌++◌, ⊤, map}
use Rattle.std.specs.List.{flat_map, list_any}
use Rattle.std.specs.Str.{bytes_eq}
use Rattle.al_base.specs.declared.unit_key.UnitKey.{UnitKey}
use Rattle.al_query.specs.Answers.{completions_of, units_named}
use Rattle.al_query.specs.Known.{has_unit, known_after}
use Rattle.al_query.specs.Queries.{unit_of}
use Rattle.al_query.specs.Reads.{Log}
use Rattle.al_query.specs.declared.answer.AnswerKind.{AnswerKind}
use Rattle.al_query.specs.declared.query.Property.TheVariants.{Completions}
use Rattle.al_query.specs.declared.query.Query.{Query}
use Rattle.al_query.specs.declared.query.Query.TheVariants.{Named, Of}

-- each of these entries is of a question that may be asked after the log before it
abbrev pub Follows : (Log → Query → Type 0) → Log → Log → Type 0
Follows may log [] = ⊤
Follows may log (e ∷ es) = may log e.0 × Follows may (log ++ e ∷ []) es

-- the log now is the log before, and then questions that may be asked
abbrev pub Asks : (Log → Query → Type 0) → Log → Log → Type 0
Asks may before now = (more : Log) × (now ≡ before ++ more) × Follows may before more

-- the names in an answer
unfoldable pub answer_names : AnswerKind → List (List ℕ)
answer_names a = map (λ c. c.name) (completions_of a) ++ map (λ u. u.name) (units_named a)

-- the names in the answers of a log
abbrev pub names_after : Log → List (List ℕ)
names_after log = flat_map (λ e. answer_names e.1) log

-- whether a question is for one of these names
abbrev pub asks_one_of : List (List ℕ) → Query → Bool
asks_one_of names (Named unit part name) = list_any (bytes_eq name) names
asks_one_of names _ = false

-- whether a question is for one of these names, or for a name in an earlier answer
abbrev pub by_name : List (List ℕ) → Log → Query → Bool
by_name names log q = asks_one_of (names ++ names_after log) q

-- whether a question is for a name, be it a word of the source or a name that the place knows otherwise, as that of a private type
-- whose full view it sees
abbrev pub by_some_name : Log → Query → Bool
by_some_name log (Named unit part name) = true
by_some_name log _ = false

-- whether a question is for a property that every unit may be asked for; what a body must complete is for the body alone
abbrev pub by_property : Log → Query → Bool
by_property log (Of unit Completions) = false
by_property log (Of unit _) = true
by_property log _ = false

-- whether it is of either kind
abbrev pub by_name_or_property : List (List ℕ) → Log → Query → Bool
by_name_or_property names log q = by_name names log q || by_property log q

-- a question of one of these units or of one that was learned, of the kind that is wanted
abbrev pub OfKnown : List UnitKey → (Log → Query → Bool) → Log → Query → Type 0
OfKnown units wanted log q = (has_unit (known_after units log) (unit_of q) ≡ true) × (wanted log q ≡ true)

-- only such questions are asked
abbrev pub AsksOf : List UnitKey → (Log → Query → Bool) → Log → Log → Type 0
AsksOf units wanted before now = Asks (OfKnown units wanted) before now
