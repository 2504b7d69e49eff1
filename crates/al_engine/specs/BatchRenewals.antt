-- What a build can use again of the partition of the last build.
use Rattle.std.specs.Prelude.{ℕ, ◌≡◌, true, false, ⊤, List, map, Option, if◌then◌else◌}
use Rattle.al_base.specs.Batch.{key_of}
use Rattle.al_base.specs.declared.unit_key.UnitKey.{UnitKey}
use Rattle.al_unit_graph.specs.Headers.{Library}
use Rattle.al_view.specs.Symbols.{same_unit}
use Rattle.al_query_outcome.specs.Defines.{main_symbol}
use Rattle.al_query_outcome.specs.Equations.{is_sound}
use Rattle.al_query_outcome.specs.Results.{Outcome}
use Rattle.al_engine.specs.Links.{IsHeld}
use Rattle.al_engine.specs.Objects.{WithObject}
use Rattle.al_engine.specs.ObjectsSeen.{object_model}
use Rattle.al_engine.specs.Partitions.{IsPartition}
use Rattle.al_engine.specs.declared.compiled.Compiled.{Compiled}
use Rattle.al_engine.specs.declared.compiled.Compiled.TheVariants.{Faulty, Unbound, TooLarge, Made}
use Rattle.al_engine.specs.declared.compiled.Program.{Program}

-- the order and the objects of a program are those of the main unit's partition if the units have these outcomes, and its image
-- is that of its objects
abbrev pub HoldsPartition : Library → (UnitKey → Option Outcome) → List ℕ → Program → Type 0
HoldsPartition lib f main program = IsPartition lib f main (map key_of program.order.items) (main_symbol lib main) (map object_model program.objects.items) × IsHeld program

-- this holds of the program that compiling gave, if it gave one
abbrev pub KeepsPartition : Library → (UnitKey → Option Outcome) → List ℕ → Compiled → Type 0
KeepsPartition lib f main (Faulty diagnostics) = ⊤
KeepsPartition lib f main (Unbound fault) = ⊤
KeepsPartition lib f main (TooLarge order) = ⊤
KeepsPartition lib f main (Made program) = HoldsPartition lib f main program

-- this held of it when the units had other outcomes than these, but only of one unit, in which no error was found then
pub record KeepsBut (lib : Library) (f : UnitKey → Option Outcome) (main : List ℕ) (unit : UnitKey) (compiled : Compiled) : Type 0 where
  pub outcomes : UnitKey → Option Outcome
  pub others : (w : UnitKey) → same_unit unit w ≡ false → f w ≡ outcomes w
  pub sound : is_sound (outcomes unit) ≡ true
  pub keeps : KeepsPartition lib outcomes main compiled

-- a unit with its object, replaced by x if that is the same unit
abbrev pub renewed_one : WithObject → WithObject → WithObject
renewed_one x one = if same_unit x.0 one.0 then x else one

-- the units with their objects, of which that of x is replaced
abbrev pub renewed : WithObject → List WithObject → List WithObject
renewed x us = map (renewed_one x) us
