-- The library unit of which a unit is part, as it is computed.
use Rattle.std.specs.Prelude.{◌≡◌, ◌↔◌, ℕ, zero, suc, List, Option, Some, None, length}
use Rattle.std.specs.Option.{option_map_or}
use Rattle.al_base.specs.declared.unit_key.UnitKind.TheVariants.{Sub}
use Rattle.al_unit_graph.specs.Headers.{Header, Library}
use Rattle.al_unit_graph.specs.Library.{unit_at}
use Rattle.al_unit_graph.specs.Faults.{IsPartOf}

-- with so many units at most, each of which but the last is a subunit in the next one
abbrev pub part_within : ℕ → Library → Header → Option (List ℕ)
part_within zero lib h = None
part_within (suc n) lib h =
    option_map_or (λ m. option_map_or (part_within n lib) (unit_at lib (m.name, Sub)) (Some m.name)) h.parent_body (Some h.name)

-- subunits that go round belong to no library unit; others pass no file twice
unfoldable pub part_of : Library → Header → Option (List ℕ)
part_of lib h = part_within (suc (length lib)) lib h

-- it is the unit that the relation gives
abbrev pub PartsAreReported : Type 0
PartsAreReported = (lib : Library) (h : Header) (name : List ℕ) → (part_of lib h ≡ Some name) ↔ IsPartOf lib h name
