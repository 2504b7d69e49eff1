-- Which units are known when a question is asked.
use Rattle.std.specs.Prelude.{◌≡◌, ℕ, Bool, true, List, [], ◌∷◌, ◌++◌, ⊤, map, codes, if◌then◌else◌}
use Rattle.std.specs.Coded.{×_prop, Unit-prop, Coded-set, coded_bool}
use Rattle.std.specs.List.{flat_map, list_any}
use Rattle.al_base.specs.declared.unit_key.UnitKey.{UnitKey}
use Rattle.al_base.specs.declared.unit_key.UnitKind.TheVariants.{Body, Decl}
use Rattle.al_view.specs.Symbols.{same_kind, same_unit}
use Rattle.al_query.specs.Answers.{declaration, units_named}
use Rattle.al_query.specs.Queries.{unit_of}
use Rattle.al_query.specs.Reads.{Log}
use Rattle.al_query.specs.declared.answer.AnswerKind.{AnswerKind}
use Rattle.al_query.specs.declared.answer.AnswerKind.TheVariants as answers
use Rattle.al_query.specs.declared.query.Property.TheVariants.{Kind}
use Rattle.al_query.specs.declared.query.Query.{Query}
use Rattle.al_query.specs.declared.query.Query.TheVariants.{Of}

-- whether a unit is in the list
abbrev pub has_unit : List UnitKey → UnitKey → Bool
has_unit units u = list_any (same_unit u) units

abbrev pub body : List ℕ → UnitKey
body name = record { name = name; kind = Body }

-- the predefined units (ARM A.1, A.2, A.10, D.8), which each unit sees without a file
abbrev pub predefined_units : List UnitKey
predefined_units = map declaration (codes "standard" ∷ codes "ada" ∷ codes "ada.text_io" ∷ codes "ada.real_time" ∷ [])

-- what the answer to what a unit is says of the unit's other half: if there is no declaration, a body may act as one (ARM
-- 10.1.4(4)); a body that is there names its declaration
abbrev pub told_of : UnitKey → AnswerKind → List UnitKey
told_of unit answers.Nothing = if same_kind unit.kind Decl then body unit.name ∷ [] else []
told_of unit (answers.Kind view) = if same_kind unit.kind Body then declaration unit.name ∷ [] else []
told_of unit _ = []

abbrev pub told_by : Query → AnswerKind → List UnitKey
told_by (Of unit Kind) answer = told_of unit answer
told_by _ answer = []

-- the units that become known by the answer to a question
abbrev pub learned : Query → AnswerKind → List UnitKey
learned q answer = units_named answer ++ told_by q answer

-- the units that are known after a log, if these were known before it
abbrev pub known_after : List UnitKey → Log → List UnitKey
known_after known log = known ++ flat_map (λ e. learned e.0 e.1) log

-- each question is of a unit that is known when it is asked
abbrev pub Grounded : List UnitKey → Log → Type 0
Grounded known [] = ⊤
Grounded known (e ∷ es) = (has_unit known (unit_of e.0) ≡ true) × Grounded (known ++ learned e.0 e.1) es

pub Grounded-prop : (known : List UnitKey) (log : Log) → IsProp (Grounded known log)
Grounded-prop known [] = Unit-prop
Grounded-prop known (e ∷ es) = ×_prop (Coded-set coded_bool (has_unit known (unit_of e.0)) true) (Grounded-prop (known ++ learned e.0 e.1) es)

-- after a question with this answer, whatever units are known at first: what was known is known, and so is what the answer names
abbrev pub Learns : Log → Log → Query → AnswerKind → Type 0
Learns before now q answer =
    (units : List UnitKey) (u : UnitKey)
    → (has_unit (known_after units before) u ≡ true → has_unit (known_after units now) u ≡ true)
    × (has_unit (learned q answer) u ≡ true → has_unit (known_after units now) u ≡ true)

-- each of these units is among those
abbrev pub AreAmong : List UnitKey → List UnitKey → Type 0
AreAmong us vs = (u : UnitKey) → has_unit us u ≡ true → has_unit vs u ≡ true

-- these units are known
abbrev pub AreKnown : List UnitKey → List UnitKey → Type 0
AreKnown known [] = ⊤
AreKnown known (u ∷ us) = (has_unit known u ≡ true) × AreKnown known us
