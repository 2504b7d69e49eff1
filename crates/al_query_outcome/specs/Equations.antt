-- The equations of a library's units, and the reads law.
use Rattle.std.specs.Prelude.{◌≡◌, ◌⊎◌, ℕ, ◌<◌, zero, suc, Bool, true, false, ◌&&◌, List, ◌∷◌, Option, Some, None, if◌then◌else◌}
use Rattle.std.specs.List.{Contains, list_all}
use Rattle.al_base.specs.Batch.{Key, key_of}
use Rattle.al_base.specs.declared.unit_key.UnitKey.{UnitKey}
use Rattle.al_view.specs.declared.view.ViewKind.{ViewKind}
use Rattle.al_query.specs.Answers.{declaration, units_named}
use Rattle.al_query.specs.Known.{Grounded, body, has_unit, known_after, predefined_units}
use Rattle.al_query.specs.Queries.{unit_of}
use Rattle.al_query.specs.Reads.{Agrees}
use Rattle.al_query.specs.declared.answer.AnswerKind.{AnswerKind}
use Rattle.al_query.specs.declared.answer.AnswerKind.TheVariants as answers
use Rattle.al_query.specs.declared.query.Property.TheVariants.{Kind}
use Rattle.al_query.specs.declared.query.Query.{Query}
use Rattle.al_query.specs.declared.query.Query.TheVariants.{Of}
use Rattle.al_unit_graph.specs.Dependence.{direct}
use Rattle.al_unit_graph.specs.Headers.{Header, Library, key_of_unit}
use Rattle.al_unit_graph.specs.Library.{declaration_of, parent_body_of, unit_at}
use Rattle.al_query_outcome.specs.ReadsLaw.{AsksOthers, NamesOnly, named_by, subunit}
use Rattle.al_query_outcome.specs.Results.{Outcome, Faulty, Sound, table_entry}
use Rattle.al_query_outcome.specs.Tables.{no_answer}

-- the outcome of each unit of a library under a table of answers: what a checker makes of the unit's source
abbrev pub Meaning : Type 0
Meaning = UnitKey → (Query → AnswerKind) → Outcome

-- a check of a unit with this header under a table, which keeps the reads law
pub record Check (meaning : Meaning) (u : UnitKey) (h : Header) (t : Query → AnswerKind) : Type 0 where
  pub log : List (Query × AnswerKind)
  pub agrees : Agrees t log
  -- every table that agrees with the log gives the same outcome
  pub reads : (v : Query → AnswerKind) → Agrees v log → meaning u t ≡ meaning u v
  -- each question is of another unit, which the source or an earlier answer names
  pub others : AsksOthers u log
  pub grounded : Grounded (named_by h) log
  -- the outcome names only these units and its own
  pub names : NamesOnly (u ∷ known_after (named_by h) log) (meaning u t)

abbrev pub KeepsReads : Meaning → (UnitKey → Header) → Type 0
KeepsReads meaning header_of = (u : UnitKey) (t : Query → AnswerKind) → Check meaning u (header_of u) t

-- a library's headers, its units that are sound and break no rule of the graph, and the predefined units' answers
pub record Setting : Type 0 where
  pub files : Library
  pub header_of : UnitKey → Header
  pub is_faultless : UnitKey → Bool
  pub predefined : Query → AnswerKind

abbrev pub unit_named : Key → UnitKey
unit_named k = record { name = k.0; kind = k.1 }

abbrev pub entry : Option Outcome → Query → AnswerKind
entry None q = no_answer q
entry (Some o) q = table_entry o q

-- the table of a map from units to outcomes
abbrev pub table : Setting → (UnitKey → Option Outcome) → Query → AnswerKind
table s f q = if has_unit predefined_units (unit_of q) then s.predefined q else entry (f (unit_of q)) q

abbrev pub is_sound : Option Outcome → Bool
is_sound None = false
is_sound (Some (Faulty faults)) = false
is_sound (Some (Sound interface tree)) = true

-- a unit is reached if it breaks no rule of the graph and all on which it depends is sound
abbrev pub is_reached : Setting → (UnitKey → Option Outcome) → UnitKey → Bool
is_reached s f u = s.is_faultless u && list_all (λ k. is_sound (f (unit_named k))) (direct s.files (key_of u))

-- the outcome of a unit that is reached, under the table of a map
abbrev pub outcome : Meaning → Setting → (UnitKey → Option Outcome) → UnitKey → Option Outcome
outcome meaning s f u = if is_reached s f u then Some (meaning u (table s f)) else None

-- a map that gives each unit that is reached its outcome under the table of the same map, and no other unit any
abbrev pub Solves : Meaning → Setting → (UnitKey → Option Outcome) → Type 0
Solves meaning s f = (u : UnitKey) → f u ≡ outcome meaning s f u

-- the outcomes after so many rounds, from nothing
abbrev pub rounds : Meaning → Setting → ℕ → UnitKey → Option Outcome
rounds meaning s zero = λ u. None
rounds meaning s (suc n) = outcome meaning s (rounds meaning s n)

-- what holds of a library whose dependences are acyclic, and of the predefined units
pub record IsSetting (s : Setting) : Type 0 where
  pub rank : UnitKey → ℕ
  pub bound : ℕ
  pub bounded : (u : UnitKey) → s.is_faultless u ≡ true → rank u < bound
  pub ordered : (u d : UnitKey) → s.is_faultless u ≡ true → s.is_faultless d ≡ true → Contains (direct s.files (key_of u)) (key_of d) → rank d < rank u
  pub headed : (u : UnitKey) → s.is_faultless u ≡ true → unit_at s.files (key_of u) ≡ Some (s.header_of u)
  pub keyed : (u : UnitKey) → s.is_faultless u ≡ true → key_of_unit (s.header_of u) ≡ key_of u
  -- which declaration and which parent body a name has
  pub declared : (n : List ℕ) → s.is_faultless (declaration n) ≡ true → declaration_of s.files n ≡ Some (key_of (declaration n))
  pub acting : (n : List ℕ) → s.is_faultless (body n) ≡ true → s.is_faultless (declaration n) ≡ false → declaration_of s.files n ≡ Some (key_of (body n)) ⊎ declaration_of s.files n ≡ Some (key_of (declaration n))
  pub completes : (n : List ℕ) → s.is_faultless (body n) ≡ true → s.is_faultless (declaration n) ≡ true → Contains (direct s.files (key_of (body n))) (key_of (declaration n))
  pub body_there : (n : List ℕ) → s.is_faultless (body n) ≡ true → parent_body_of s.files n ≡ Some (key_of (body n))
  pub subunit_there : (n : List ℕ) → s.is_faultless (subunit n) ≡ true → parent_body_of s.files n ≡ Some (key_of (subunit n))
  -- the predefined units have no files; they are there, and name no others
  pub without_files : (u : UnitKey) → has_unit predefined_units u ≡ true → (s.is_faultless u ≡ false) × (s.is_faultless (body u.name) ≡ false)
  pub packages : (u : UnitKey) → has_unit predefined_units u ≡ true → (v : ViewKind) × (s.predefined (Of u Kind) ≡ answers.Kind v)
  pub closed : (q : Query) → has_unit predefined_units (unit_of q) ≡ true → list_all (has_unit predefined_units) (units_named (s.predefined q)) ≡ true
