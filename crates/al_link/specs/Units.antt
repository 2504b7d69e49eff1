-- The linker's input: units with their objects, in the order of the image.
use Rattle.std.specs.Prelude.{ℕ, ◌+◌, ◌≤◌, Bool, true, false, if◌then◌else◌, List, [], ◌∷◌, length, sum_by}
use Rattle.al_base.specs.declared.unit_key.UnitKey.{UnitKey}
use Rattle.al_base.specs.declared.unit_key.UnitKind.{UnitKind}
use Rattle.al_base.specs.declared.unit_key.UnitKind.TheVariants.{Decl, Body, Sub}
use Rattle.al_code_object.specs.Objects.{CompiledCode}
use Rattle.al_link.specs.declared.bases.Bases.{Bases}
use Rattle.al_link.specs.declared.units.LinkUnit.{LinkUnit}
use Rattle.al_link.specs.declared.units.Located.{Located as LocatedUnit}
use Rattle.al_link.specs.Bases.{AreSmall, next_bases}

pub record UnitObject : Type 0 where
  pub key : UnitKey
  pub object : CompiledCode

-- a unit, and what precedes its object
pub record Located : Type 0 where
  pub key : UnitKey
  pub object : CompiledCode
  pub before : Bases

abbrev pub unit_model : LinkUnit → UnitObject
unit_model u = record { key = u.key.now; object = u.object.now }

abbrev pub located_model : LocatedUnit → Located
located_model l = record { key = l.key.now; object = l.object.now; before = l.before }

-- each unit with the sum of what the units before it hold
abbrev pub located : Bases → List UnitObject → List Located
located b [] = []
located b (u ∷ us) = record { key = u.key; object = u.object; before = b } ∷ located (next_bases b u.object) us

-- the sum of all
abbrev pub bases_after : Bases → List UnitObject → Bases
bases_after b [] = b
bases_after b (u ∷ us) = bases_after (next_bases b u.object) us

-- declarations and bodies are elaborated by calls; a subunit is part of its body
abbrev pub is_item : UnitKind → Bool
is_item Decl = true
is_item Body = true
is_item Sub = false

-- the starting code calls each item's elaboration, in ten bytes
abbrev pub call_size : UnitObject → ℕ
call_size u = if is_item u.key.kind then 10 else 0

-- the starting code then makes the tasks ready, calls the main subprogram and ends, in twelve bytes
abbrev pub start_size : List UnitObject → ℕ
start_size us = sum_by call_size us + 12

-- what precedes the first object
abbrev pub first_bases : List UnitObject → Bases
first_bases us = record { code = start_size us; words = 0; objects = 0; tasks = 0 }

abbrev pub totals : List UnitObject → Bases
totals us = bases_after (first_bases us) us

-- no limit of images is passed
pub record AreWithin (us : List UnitObject) : Type 0 where
  pub count : length us ≤ 65535
  pub sums : AreSmall (totals us)
