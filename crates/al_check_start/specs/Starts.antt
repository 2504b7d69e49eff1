-- The units that a unit knows once it has asked the units that enclose it, by a table of answers.
use Rattle.std.specs.Prelude.{ℕ, zero, suc, ◌≡◌, true, List, [], ◌∷◌, ◌++◌, ⊤, map, length, Option, Some, None, is_some, if◌then◌else◌}
use Rattle.std.specs.List.{flat_map}
use Rattle.std.specs.Option.{option_map}
use Rattle.al_base.specs.declared.unit_key.UnitKey.{UnitKey}
use Rattle.al_base.specs.declared.unit_key.UnitKind.{UnitKind}
use Rattle.al_base.specs.declared.unit_key.UnitKind.TheVariants.{Body, Decl}
use Rattle.al_unit_graph.specs.Headers.{Header, Mention, is_library_body}
use Rattle.al_unit_graph.specs.Names as names
use Rattle.al_unit_graph.specs.Names.{lineage}
use Rattle.al_view.specs.Symbols.{same_unit}
use Rattle.al_query.specs.Answers.{context_of, declaration, own_view_of, parent_of}
use Rattle.al_query.specs.Known.{AreKnown, body, has_unit, known_after}
use Rattle.al_query.specs.Reads.{Log, Table}
use Rattle.al_query.specs.declared.answer.AnswerKind.{AnswerKind}
use Rattle.al_query.specs.declared.answer.AnswerKind.TheVariants as answers
use Rattle.al_query.specs.declared.answer.ContextView.{ContextView}
use Rattle.al_query.specs.declared.query.Property.{Property}
use Rattle.al_query.specs.declared.query.Property.TheVariants.{Context, Kind, Parent}
use Rattle.al_query.specs.declared.query.Query.TheVariants.{Of}
use Rattle.al_query_outcome.specs.ReadsLaw.{AsksOthers, named_by, subunit}

-- the answer of another unit; a unit doesn't ask itself
abbrev pub asked_of : Table → UnitKey → UnitKey → Property → AnswerKind
asked_of t own unit property = if same_unit own unit then answers.Nothing else t (Of unit property)

-- the other half of a unit: a body that acts as its declaration if there is none (ARM 10.1.4(4)), or the declaration of a body that exists
abbrev pub half_kind : UnitKind → AnswerKind → Option UnitKind
half_kind Decl answers.Nothing = Some Body
half_kind Body (answers.Kind view) = Some Decl
half_kind kind answer = None

abbrev pub as_list : {X : Type 0} → Option X → List X
as_list None = []
as_list (Some x) = x ∷ []

abbrev pub key : List ℕ → UnitKind → UnitKey
key name kind = record { name = name; kind = kind }

abbrev pub half_of : Table → UnitKey → UnitKey → List UnitKey
half_of t own unit = if same_unit own unit then [] else as_list (option_map (key unit.name) (half_kind unit.kind (t (Of unit Kind))))

-- the units that the with clauses of a unit mention: those that they name, each after its ancestors (ARM 10.1.2(6))
abbrev pub declarations : List ℕ → List UnitKey
declarations name = map declaration (lineage name)

abbrev pub context_mentions : Option ContextView → List UnitKey
context_mentions None = []
context_mentions (Some c) = flat_map (λ u. declarations u.name) c.withs

abbrev pub mentions_of : Table → UnitKey → UnitKey → List UnitKey
mentions_of t own unit = context_mentions (context_of (asked_of t own unit Context))

-- a unit and its parents in turn, the nearest first, at most so many
abbrev pub outward : Table → UnitKey → ℕ → Option UnitKey → List UnitKey
outward t own zero next = []
outward t own (suc n) None = []
outward t own (suc n) (Some unit) = unit ∷ outward t own n (parent_of (asked_of t own unit Parent))

-- the body in which a subunit's stub is (ARM 10.1.3(8)): the library body with this name, or else the subunit with this name
abbrev pub parent_body : Table → UnitKey → List ℕ → UnitKey
parent_body t own name = if is_some (own_view_of (asked_of t own (body name) Kind)) then body name else subunit name

-- the declaration of a library body
abbrev pub own_declaration : Header → List UnitKey
own_declaration h = if is_library_body h.form then declaration h.name ∷ [] else []

-- the units that enclose a unit: the declaration of a library body, and the ancestors; for a subunit the bodies that enclose it, outward up to a
-- library unit's, and the ancestors of that one
abbrev pub round : Table → UnitKey → Header → Option Mention → List UnitKey
round t own h None = own_declaration h ++ outward t own (length h.name) (option_map declaration (names.parent_of h.name))
round t own h (Some parent) = outward t own (length h.name) (Some (parent_body t own parent.name))

-- these units with their other halves
abbrev pub with_halves : Table → UnitKey → List UnitKey → List UnitKey
with_halves t own units = units ++ flat_map (half_of t own) units

-- the units that the unit's own with clauses mention
abbrev pub own_mentions : Header → List UnitKey
own_mentions h = flat_map (λ m. declarations m.name) h.mentions

-- these units with those that are mentioned, and with the other halves of these
abbrev pub with_mentions : Table → UnitKey → Header → List UnitKey → List UnitKey
with_mentions t own h units =
    let mentioned = flat_map (mentions_of t own) units in
    units ++ (mentioned ++ (flat_map (half_of t own) (own_mentions h) ++ flat_map (half_of t own) mentioned))

-- all units that are known then: those that the source names, those that enclose the unit, and those that are mentioned
unfoldable pub units_known : Table → UnitKey → Header → List UnitKey
units_known t own h = named_by h ++ with_mentions t own h (with_halves t own (round t own h h.parent_body))

-- ---- what is known

-- these units are known after a log, whatever was known before it
abbrev pub AreLearned : Log → List UnitKey → Type 0
AreLearned log units = (known : List UnitKey) → AreKnown (known_after known log) units

-- a unit is known, if there is one
abbrev pub IsKnown : List UnitKey → Option UnitKey → Type 0
IsKnown known None = ⊤
IsKnown known (Some unit) = has_unit known unit ≡ true

-- no question of the unit itself is asked
abbrev pub OnlyOthers : UnitKey → Log → Log → Type 0
OnlyOthers own before now = AsksOthers own before → AsksOthers own now
