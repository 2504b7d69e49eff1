-- Short rows of instructions, of which templates are made.
use Rattle.std.specs.Prelude.{ℕ, zero, suc, ℤ, ◌-◌, List, [], ◌∷◌, ◌++◌, Option, Some, None}
use Rattle.al_view.specs.ViewUses.{link}
use Rattle.al_view.specs.declared.link.LinkKind.{LinkKind}
use Rattle.al_view.specs.declared.types.Bounds.{Bounds}
use Rattle.al_view.specs.declared.view.ObjectPlace.{ObjectPlace}
use Rattle.al_view.specs.declared.view.ObjectPlace.TheVariants as places
use Rattle.al_instr.specs.declared.numbers.Plain.{Plain as PlainOne}
use Rattle.al_instr.specs.declared.numbers.Sized.{Sized as SizedOne}
use Rattle.al_instr.specs.declared.numbers.Sized.TheVariants as sized
use Rattle.al_instr.specs.declared.instruction.Instr.TheVariants as instr
use Rattle.al_code.specs.declared.piece.JumpCondition.TheVariants as when
use Rattle.al_code.specs.declared.piece.Target.TheVariants as target
use Rattle.al_code.specs.declared.piece.Construct.TheVariants as construct
use Rattle.al_code.specs.Pieces.{Piece, closed}
use Rattle.al_code.specs.Pieces.Piece.{Whole, Using, Leaving}

-- one instruction
abbrev pub one : PlainOne → List Piece
one p = Whole (instr.Plain p) ∷ []

abbrev pub of_size : SizedOne → ℕ → List Piece
of_size s n = Whole (instr.Sized s n) ∷ []

abbrev pub number : ℤ → List Piece
number n = Whole (instr.Const n) ∷ []

-- the address of a word of the frame
abbrev pub slot : ℕ → List Piece
slot word = Whole (instr.Frame 0 word) ∷ []

-- a word to and from the frame
unfoldable pub store_slot : ℕ → List Piece
store_slot word = slot word ++ of_size sized.Store 1

unfoldable pub load_slot : ℕ → List Piece
load_slot word = slot word ++ of_size sized.Load 1

-- the check against the bounds of a scalar subtype; none for a subtype that isn't scalar
abbrev pub check_code : Option Bounds → List Piece
check_code None = []
check_code (Some b) = Whole (instr.Check b.low b.high) ∷ []

-- the address of an object or of a flag at a place, in a body of nesting depth `depth`
abbrev pub place_code : LinkKind → ℕ → ObjectPlace → List Piece
place_code kind depth (places.Frame d word) = Whole (instr.Frame (depth - d) word) ∷ []
place_code kind depth (places.Static symbol word) = Using (instr.Global word) (link kind symbol) ∷ []

-- a jump to the end of the innermost `if`, `case` or short-circuit form
abbrev pub join : List Piece
join = Leaving when.Always target.Join ∷ []

-- a jump past what follows if the word on top is 0
abbrev pub unless_zero : List Piece
unless_zero = Leaving when.IfZero target.Next ∷ []

-- code that runs if the word on top isn't 0:  JumpZ N  p  N:
unfoldable pub guarded : List Piece → List Piece
guarded p = closed construct.Test (unless_zero ++ p)

-- a code so many times
abbrev pub times : ℕ → List Piece → List Piece
times zero p = []
times (suc n) p = times n p ++ p
