-- An invariant of code as it is written.
use Rattle.std.specs.Prelude.{ℕ, ◌≡◌, ◌≤◌, ◌-◌, List, [], ◌∷◌, length, All, ◌⊎◌}
use Rattle.al_view.specs.declared.link.LinkKind.{LinkKind}
use Rattle.al_view.specs.declared.link.LinkKind.TheVariants as kind
use Rattle.al_instr.specs.declared.instruction.Instr.TheVariants as instr
use Rattle.al_code_object.specs.declared.object.Address.{Address}
use Rattle.al_code_object.specs.declared.object.Relocation.{Relocation}
use Rattle.al_code_object.specs.Parts.{Part, Whole, part_bytes, code_of, uses_from, IsPart}
use Rattle.al_code.specs.declared.piece.ForwardJump.{ForwardJump}

abbrev pub IsJump : Part → Type 0
IsJump (Whole (instr.Jump distance)) = Unit {0}
IsJump (Whole (instr.JumpZero distance)) = Unit {0}
IsJump _ = ⊥

-- a jump is at a place of the code
abbrev pub JumpAt : List Part → ℕ → Type 0
JumpAt [] place = ⊥
JumpAt (p ∷ ps) place = (IsJump p × (place ≡ 0)) ⊎ ((length (part_bytes p) ≤ place) × JumpAt ps (place - length (part_bytes p)))

-- the kinds of symbols that are defined in code; objects and flags aren't
abbrev pub IsCodeKind : LinkKind → Type 0
IsCodeKind kind.Code = Unit {0}
IsCodeKind kind.Gate = Unit {0}
IsCodeKind kind.EntryBody = Unit {0}
IsCodeKind _ = ⊥

abbrev pub StandsWithin : ℕ → Address → Type 0
StandsWithin end a = IsCodeKind a.symbol.kind × (a.offset ≤ end)

-- the code is a list of instructions, the uses are the places in it at which these use symbols, jumps are at the places noted, and symbols are
-- defined within it; it is no longer than that of any image
pub record IsKept (code : List ℕ) (uses : List Relocation) (defines : List Address) (leaving : List ForwardJump) : Type 0 where
  pub parts : List Part
  pub are_parts : All IsPart parts
  pub code_is : code ≡ code_of parts
  pub uses_are : uses ≡ uses_from 0 parts
  pub waiting : All (λ l. JumpAt parts l.place) leaving
  pub within : length code ≤ 16777216
  pub standing : All (StandsWithin (length code)) defines
