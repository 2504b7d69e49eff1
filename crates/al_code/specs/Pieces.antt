-- Pieces of code: instructions, the symbols that they use, jumps whose ends aren't there yet, and the symbols that are defined between them.
use Rattle.std.specs.Prelude.{ℕ, ℤ, pos, neg_ℤ, ◌+◌, min, max, Option, Some, None, List, [], ◌∷◌, ◌++◌, length, take}
use Rattle.std.specs.List.{flat_map}
use Rattle.al_view.specs.declared.link.LinkSymbol.{LinkSymbol}
use Rattle.al_instr.specs.declared.instruction.Instr.{Instr}
use Rattle.al_instr.specs.declared.instruction.Instr.TheVariants as instr
use Rattle.al_instr.specs.declared.lines.LineEntry.{LineEntry}
use Rattle.al_instr.specs.Codes.{encoded}
use Rattle.al_code_object.specs.declared.object.Address.{Address}
use Rattle.al_code_object.specs.declared.object.Relocation.{Relocation}
use Rattle.al_code.specs.declared.piece.ForwardJump.{ForwardJump}
use Rattle.al_code.specs.declared.piece.JumpCondition.{JumpCondition}
use Rattle.al_code.specs.declared.piece.JumpCondition.TheVariants as when
use Rattle.al_code.specs.declared.piece.Target.{Target}
use Rattle.al_code.specs.declared.piece.Construct.{Construct}
use Rattle.al_code.specs.Targets.{outside}

pub data Piece : Type 0 where
  -- an instruction
  Whole : Instr → Piece
  -- an instruction whose first operand counts from the place of the symbol
  Using : Instr → LinkSymbol → Piece
  -- a jump whose end isn't there yet
  Leaving : JumpCondition → Target → Piece
  -- the symbol is defined here
  Begins : LinkSymbol → Piece
  -- from here on the code is of this line
  Line : ℕ → Piece

-- a jump over so many bytes
abbrev pub jump_of : JumpCondition → ℤ → Instr
jump_of when.Always distance = instr.Jump distance
jump_of when.IfZero distance = instr.JumpZero distance

abbrev pub piece_bytes : Piece → List ℕ
piece_bytes (Whole i) = encoded i
piece_bytes (Using i symbol) = encoded i
piece_bytes (Leaving w target) = encoded (jump_of w (pos 0))
piece_bytes (Begins symbol) = []
piece_bytes (Line n) = []

abbrev pub bytes_of : List Piece → List ℕ
bytes_of ps = flat_map piece_bytes ps

-- the number of bytes that pieces take: it doesn't depend on the targets of jumps
abbrev pub piece_size : Piece → ℕ
piece_size p = length (piece_bytes p)

abbrev pub size : List Piece → ℕ
size ps = length (bytes_of ps)

-- what is noted of each piece, and the place at which it begins, the first at `from`
abbrev pub noted_from : {X : Type 0} → (ℕ → Piece → List X) → ℕ → List Piece → List X
noted_from note from [] = []
noted_from note from (p ∷ ps) = note from p ++ noted_from note (from + piece_size p) ps

-- the place at which a symbol is used: an operand comes after the instruction's number
abbrev pub use_at : ℕ → Piece → List Relocation
use_at from (Using i symbol) = record { place = from + 1; symbol = symbol } ∷ []
use_at from _ = []

abbrev pub uses_from : ℕ → List Piece → List Relocation
uses_from from ps = noted_from use_at from ps

-- the place at which a symbol is defined
abbrev pub definition_at : ℕ → Piece → List Address
definition_at from (Begins symbol) = record { symbol = symbol; offset = from } ∷ []
definition_at from _ = []

abbrev pub defines_from : ℕ → List Piece → List Address
defines_from from ps = noted_from definition_at from ps

-- a line as a word: no source has so many lines that one wouldn't fit
abbrev pub line_word : ℕ → ℕ
line_word n = max (min n 4294967295) 1

-- the place at which the code of a line begins
abbrev pub line_at : ℕ → Piece → List LineEntry
line_at from (Line n) = record { place = from; line = line_word n } ∷ []
line_at from _ = []

abbrev pub lines_from : ℕ → List Piece → List LineEntry
lines_from from ps = noted_from line_at from ps

-- the place of a jump that waits for its end
abbrev pub leave_at : ℕ → Piece → List ForwardJump
leave_at from (Leaving w target) = record { place = from; target = target } ∷ []
leave_at from _ = []

abbrev pub leaves_from : ℕ → List Piece → List ForwardJump
leaves_from from ps = noted_from leave_at from ps

-- ---- jumps

-- back to the first of so many bytes, which the jump ends
abbrev pub back : ℕ → Piece
back n = Whole (instr.Jump (neg_ℤ (pos (n + 5))))

-- a jump over so many bytes, if its end is there
abbrev pub over_or : JumpCondition → Option Target → ℕ → Piece
over_or w None n = Whole (jump_of w (pos n))
over_or w (Some t) n = Leaving w t

-- the end of a construct: the jumps to it lead past the pieces that follow them
abbrev pub closed : Construct → List Piece → List Piece
closed c [] = []
closed c (Whole i ∷ ps) = Whole i ∷ closed c ps
closed c (Using i symbol ∷ ps) = Using i symbol ∷ closed c ps
closed c (Begins symbol ∷ ps) = Begins symbol ∷ closed c ps
closed c (Line n ∷ ps) = Line n ∷ closed c ps
closed c (Leaving w t ∷ ps) = over_or w (outside c t) (size ps) ∷ closed c ps

-- T: p  Jump T
unfoldable pub repeated : List Piece → List Piece
repeated ps = ps ++ back (size ps) ∷ []

-- ---- strings

-- the bytes that are put of a literal's name: an instruction holds at most 255 bytes of each, and an identifier has at most 200
abbrev pub printed : List ℕ → List ℕ
printed name = take 255 name
