-- The body in which the stub of a subunit is, by a table of answers (ARM 10.1.3).
use Rattle.std.specs.Prelude.{ℕ, zero, suc, List, [], ◌∷◌, ◌++◌, length, Option, Some, None, if◌then◌else◌}
use Rattle.al_base.specs.declared.unit_key.UnitKey.{UnitKey}
use Rattle.al_query.specs.Answers.{parent_of}
use Rattle.al_query.specs.Reads.{Table}
use Rattle.al_query.specs.declared.query.Property.TheVariants.{Parent}
use Rattle.al_query.specs.declared.query.Query.TheVariants.{Of}
use Rattle.al_query_outcome.specs.Left.{body_named, last_of}
use Rattle.al_scope.specs.declared.region.UnitPart.{UnitPart}
use Rattle.al_scope.specs.UnitPlaces.{is_subunit, part_of}
use Rattle.al_view.specs.declared.part.Part.TheVariants.{Stub}

-- the body in which the stub of a subunit is; a library body has none
abbrev pub next_body : Table → UnitKey → Option UnitKey
next_body t unit = if is_subunit unit then parent_of (t (Of unit Parent)) else None

-- the stubs that enclose the subunit with this name, whose own stub is in this body, outermost first: at most so many
abbrev pub stubs_in : Table → ℕ → List ℕ → Option UnitKey → List UnitPart
stubs_in t zero name next = []
stubs_in t (suc n) name None = []
stubs_in t (suc n) name (Some unit) = stubs_in t n unit.name (next_body t unit) ++ part_of unit (Stub (last_of name)) ∷ []

-- the stub with this name, and the stubs that enclose it, from the inside out: at most so many
abbrev pub stubs_out : Table → ℕ → List ℕ → Option UnitKey → List UnitPart
stubs_out t zero stub next = []
stubs_out t (suc n) stub None = []
stubs_out t (suc n) stub (Some unit) = part_of unit (Stub stub) ∷ stubs_out t n (last_of unit.name) (next_body t unit)

abbrev pub stubs_round : Table → List ℕ → List ℕ → List UnitPart
stubs_round t name parent = stubs_in t (length name) name (Some (body_named t parent))
