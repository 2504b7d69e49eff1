-- The parts of a code: instructions, and the symbols that the linker fills in.
use Rattle.std.specs.Prelude.{ℕ, ◌+◌, List, [], ◌∷◌, ◌++◌, length}
use Rattle.std.specs.List.{flat_map}
use Rattle.al_view.specs.declared.link.LinkKind.{LinkKind}
use Rattle.al_view.specs.declared.link.LinkKind.TheVariants as kind
use Rattle.al_view.specs.declared.link.LinkSymbol.{LinkSymbol}
use Rattle.al_instr.specs.declared.instruction.Instr.{Instr}
use Rattle.al_instr.specs.declared.instruction.Instr.TheVariants as instr
use Rattle.al_instr.specs.Codes.{encoded, IsInstr}
use Rattle.al_code_object.specs.declared.object.Relocation.{Relocation}

pub data Part : Type 0 where
  -- an instruction
  Whole : Instr → Part
  -- an instruction whose first operand counts from the place of the symbol
  Using : Instr → LinkSymbol → Part

abbrev pub instr_of : Part → Instr
instr_of (Whole i) = i
instr_of (Using i symbol) = i

abbrev pub part_bytes : Part → List ℕ
part_bytes p = encoded (instr_of p)

-- the bytes of a code
abbrev pub code_of : List Part → List ℕ
code_of ps = flat_map part_bytes ps

-- the places at which a part that begins at `from` uses a symbol: its operand comes after the instruction's number
abbrev pub uses_at : ℕ → Part → List Relocation
uses_at from (Whole i) = []
uses_at from (Using i symbol) = record { place = from + 1; symbol = symbol } ∷ []

-- the places at which a code that begins at `from` uses symbols
abbrev pub uses_from : ℕ → List Part → List Relocation
uses_from from [] = []
uses_from from (p ∷ ps) = uses_at from p ++ uses_from (from + length (part_bytes p)) ps

-- which instructions use which symbols: addresses of words those of objects and flags, calls those of code, and what is done
-- to a protected object its number
abbrev pub MayUse : Instr → LinkKind → Type 0
MayUse (instr.Global place) kind.Data = Unit {0}
MayUse (instr.Global place) kind.Flag = Unit {0}
MayUse (instr.Call place words) kind.Code = Unit {0}
MayUse (instr.Call place words) kind.Gate = Unit {0}
MayUse (instr.Call place words) kind.EntryBody = Unit {0}
MayUse (instr.Task place priority) kind.Code = Unit {0}
MayUse (instr.Seed place words) kind.Data = Unit {0}
MayUse (instr.Protected action object) kind.Protected = Unit {0}
MayUse _ _ = ⊥

-- an instruction whose operands fit, and that may use the symbol that it uses
abbrev pub IsPart : Part → Type 0
IsPart (Whole i) = IsInstr i
IsPart (Using i symbol) = IsInstr i × MayUse i symbol.kind
