-- Where lines begin in code that was written.
use Rattle.std.proofs.Common.{◌≡◌, ℕ, ◌<◌, ◌≤◌, List, [], ◌∷◌, ◌++◌, length, arith, max, min, ◌+◌}
use Rattle.std.specs.List.{All}
use Rattle.std.proofs.lemmas.List.Elements.{All-nil, All-cons}
use Rattle.al_instr.specs.declared.lines.LineEntry.{LineEntry}
use Rattle.al_instr.specs.Lines.{AreLines, line_table}
use Rattle.al_instr.proofs.LineLemmas.{line_table_keeps}
use Rattle.al_code.specs.Pieces.{Piece, Whole, Using, Leaving, Begins, Line, line_word, lines_from, piece_size, size}

at_least_one : (from : ℕ) (ps : List Piece) → All (λ m. 1 ≤ m.line) (lines_from from ps)
at_least_one from [] = All-nil (λ m. 1 ≤ m.line)
at_least_one from (Line n ∷ ps) =
    let some : 1 ≤ line_word n = omega arith in
    All-cons (λ m. 1 ≤ m.line) (record { place = from; line = line_word n }) (lines_from (from + piece_size (Line n)) ps) some (at_least_one (from + piece_size (Line n)) ps)
at_least_one from (Whole i ∷ ps) = at_least_one (from + piece_size (Whole i)) ps
at_least_one from (Using i symbol ∷ ps) = at_least_one (from + piece_size (Using i symbol)) ps
at_least_one from (Leaving w target ∷ ps) = at_least_one (from + piece_size (Leaving w target)) ps
at_least_one from (Begins symbol ∷ ps) = at_least_one (from + piece_size (Begins symbol)) ps

words : (from : ℕ) (ps : List Piece) → All (λ m. m.line < 0x1_0000_0000) (lines_from from ps)
words from [] = All-nil (λ m. m.line < 0x1_0000_0000)
words from (Line n ∷ ps) =
    let few : line_word n < 0x1_0000_0000 = omega arith in
    All-cons (λ m. m.line < 0x1_0000_0000) (record { place = from; line = line_word n }) (lines_from (from + piece_size (Line n)) ps) few (words (from + piece_size (Line n)) ps)
words from (Whole i ∷ ps) = words (from + piece_size (Whole i)) ps
words from (Using i symbol ∷ ps) = words (from + piece_size (Using i symbol)) ps
words from (Leaving w target ∷ ps) = words (from + piece_size (Leaving w target)) ps
words from (Begins symbol ∷ ps) = words (from + piece_size (Begins symbol)) ps

-- the table of lines of pieces that pass no limit
pub table_keeps : (ps : List Piece) → size ps ≤ 16777216 → AreLines (size ps) (line_table (size ps) (lines_from 0 ps))
table_keeps ps within = line_table_keeps (size ps) (lines_from 0 ps) (omega arith) (at_least_one 0 ps) (words 0 ps)
