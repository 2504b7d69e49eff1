-- Pieces of code that stand in a program at a place, and their lines.
use Rattle.std.specs.Prelude.{◌≡◌, ℕ, ◌+◌, ◌<◌, ◌≤◌, ⊤, ℤ, pos, ◌+ℤ◌, List, [], ◌∷◌, Some}
use Rattle.al_base.specs.declared.unit_key.UnitKey.{UnitKey}
use Rattle.al_view.specs.declared.link.LinkSymbol.{LinkSymbol}
use Rattle.al_instr.specs.declared.instruction.Instr.{Instr}
use Rattle.al_instr.specs.Codes.{size_of}
use Rattle.al_code.specs.declared.piece.Target.{Target}
use Rattle.al_code.specs.Pieces.{Piece, Whole, Using, Leaving, Begins, Line, jump_of, piece_size, line_word}
use Rattle.al_machine.specs.declared.code.Step.{Step}
use Rattle.al_machine.specs.Code.{fetch}
use Rattle.al_machine.specs.Operations.{operation_of}
use Rattle.al_meaning_code.specs.Running.{IsThere, Lines}

-- the code, and what linking makes of an instruction that uses a symbol
module _ (code : List Step) (linked : LinkSymbol → Instr → Instr) where
  abbrev pub Here : ℕ → Instr → Type 0
  Here pc i = fetch code pc ≡ Some (operation_of i, pc + size_of i)

  -- the pieces stand there, and an instruction begins where they end; jumps that leave them lead to the ends of their targets
  abbrev pub Stands : (Target → ℕ) → ℕ → List Piece → Type 0
  Stands ends pc [] = IsThere code pc
  Stands ends pc (Whole i ∷ ps) = Here pc i × Stands ends (pc + size_of i) ps
  Stands ends pc (Using i s ∷ ps) = Here pc (linked s i) × (size_of (linked s i) ≡ size_of i) × Stands ends (pc + size_of i) ps
  Stands ends pc (Leaving w t ∷ ps) = ((d : ℤ) × Here pc (jump_of w d) × (pos (pc + 5) +ℤ d ≡ pos (ends t)) × IsThere code (ends t)) × Stands ends (pc + 5) ps
  Stands ends pc (Begins s ∷ ps) = Stands ends pc ps
  Stands ends pc (Line n ∷ ps) = Stands ends pc ps

-- the lines of the code, of a unit
module _ (lines : Lines) (unit : UnitKey) where
  -- all places from one to another are of a line
  abbrev pub AreOfLine : ℕ → ℕ → ℕ → Type 0
  AreOfLine line from to = (k : ℕ) → from ≤ k → k < to → lines k ≡ Some (unit, line_word line)

  -- the pieces from a place on are of the lines that their marks say, and before the first mark of this line
  abbrev pub AreMarked : ℕ → ℕ → List Piece → Type 0
  AreMarked line pc [] = ⊤
  AreMarked line pc (Line n ∷ ps) = AreMarked n pc ps
  AreMarked line pc (p ∷ ps) = AreOfLine line pc (pc + piece_size p) × AreMarked line (pc + piece_size p) ps
