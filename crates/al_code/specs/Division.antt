-- The code of a unit, divided into its routines.
use Rattle.std.specs.Prelude.{ℕ, ◌+◌, ◌≡◌, ◌⊎◌, ℤ, pos, ◌+ℤ◌, List, [], ◌∷◌, ◌++◌, length, map, All, Option, Some, None, IfSome}
use Rattle.std.specs.List.{flat_map}
use Rattle.std.specs.Option.{option_map_or}
use Rattle.al_view.specs.ViewUses.{link}
use Rattle.al_view.specs.declared.link.LinkKind.TheVariants.{Code, Gate, EntryBody}
use Rattle.al_view.specs.declared.link.LinkSymbol.{LinkSymbol}
use Rattle.al_view.specs.declared.symbol.Symbol.{Symbol}
use Rattle.al_instr.specs.declared.instruction.Instr.{Instr}
use Rattle.al_instr.specs.declared.instruction.Instr.TheVariants as instr
use Rattle.al_instr.specs.Codes.{code_bytes, size_of}
use Rattle.al_view_typed.specs.UnitTrees.{UnitTree}
use Rattle.al_view_typed.specs.declared.unit.BodyKind.{BodyKind}
use Rattle.al_view_typed.specs.declared.unit.BodyKind.TheVariants as kinds
use Rattle.al_code_object.specs.declared.object.Address.{Address}
use Rattle.al_code_object.specs.declared.object.Object.TheVariants.{Compiled}
use Rattle.al_code_object.specs.Objects.{CompiledCode}
use Rattle.al_code.specs.ObjectOf.{data_addresses, object_of}

-- ---- instructions and jumps

-- an instruction begins at a place, if the first one begins at `from`
abbrev pub BeginsAt : ℕ → List Instr → ℤ → Type 0
BeginsAt from [] place = ⊥
BeginsAt from (i ∷ is) place = (place ≡ pos from) ⊎ BeginsAt (from + size_of i) is place

-- how far an instruction jumps, counted from its end, if it is a jump
abbrev pub jump_in : Instr → Option ℤ
jump_in (instr.Jump distance) = Some distance
jump_in (instr.JumpZero distance) = Some distance
jump_in _ = None

-- each jump leads to a place of a kind
abbrev pub JumpsLead : (ℤ → Type 0) → ℕ → List Instr → Type 0
JumpsLead P from [] = Unit {0}
JumpsLead P from (i ∷ is) = IfSome (jump_in i) (λ d. P (pos (from + size_of i) +ℤ d)) × JumpsLead P (from + size_of i) is

-- each jump leads to an instruction of the same list
abbrev pub StaysInside : List Instr → Type 0
StaysInside is = JumpsLead (BeginsAt 0 is) 0 is

-- ---- routines

-- a routine: the symbol of its first instruction, and its instructions
pub record RoutineCode : Type 0 where
  pub symbol : Option LinkSymbol
  pub code : List Instr

-- the routines of a body, by their symbols: an entry has its gate and its body, all else one
abbrev pub kind_symbols : Symbol → BodyKind → List (Option LinkSymbol)
kind_symbols symbol (kinds.Entry object barrier) = Some (link Gate symbol) ∷ Some (link EntryBody symbol) ∷ []
kind_symbols symbol _ = Some (link Code symbol) ∷ []

-- the routines of a unit: its elaboration, if it has one, has no symbol
abbrev pub routine_symbols : UnitTree → List (Option LinkSymbol)
routine_symbols u = option_map_or (λ e. None ∷ []) u.elaboration [] ++ flat_map (λ b. kind_symbols b.symbol b.kind) u.bodies

abbrev pub bytes_in : RoutineCode → List ℕ
bytes_in r = code_bytes r.code

-- each symbol is at the place at which its routine begins, the first one at `from`
abbrev pub symbol_at : Option LinkSymbol → ℕ → List Address
symbol_at None from = []
symbol_at (Some symbol) from = record { symbol = symbol; offset = from } ∷ []

abbrev pub standing_from : ℕ → List RoutineCode → List Address
standing_from from [] = []
standing_from from (r ∷ rs) = symbol_at r.symbol from ++ standing_from (from + length (bytes_in r)) rs

-- the code is that of the unit's routines one after the other; each begins at its symbol's place, and the only other
-- symbols are those among the unit's words; each jump leads to an instruction of its own routine
pub record FallsIntoRoutines (u : UnitTree) (o : CompiledCode) : Type 0 where
  pub routines : List RoutineCode
  pub symbols_are : map (λ (r : RoutineCode). r.symbol) routines ≡ routine_symbols u
  pub code_is : o.code ≡ flat_map bytes_in routines
  pub symbols_stand : o.defines ≡ standing_from 0 routines ++ data_addresses u
  pub jumps_stay : All (λ (r : RoutineCode). StaysInside r.code) routines

-- the code of each unit that has an object consists of its routines
abbrev pub EachFallsIntoRoutines : Type 0
EachFallsIntoRoutines = (u : UnitTree) (o : CompiledCode) → object_of u ≡ Compiled o → FallsIntoRoutines u o
