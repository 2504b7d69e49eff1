-- The code of output (ARM A.10.7).
use Rattle.std.specs.Prelude.{ℕ, zero, suc, min, Bool, true, false, List, [], ◌∷◌, ◌++◌, map, sum_by}
use Rattle.std.specs.List.{flat_map}
use Rattle.al_instr.specs.declared.instruction.Instr.TheVariants as instr
use Rattle.al_instr.specs.declared.numbers.Plain.TheVariants as plain
use Rattle.al_instr.specs.declared.numbers.Sized.TheVariants as sized
use Rattle.al_view_typed.specs.StatementTrees.{PieceTree}
use Rattle.al_view_typed.specs.StatementTrees.PieceTree.{TextPiece, IntegerImage, EnumerationImage}
use Rattle.al_code.specs.Pieces.{Piece, printed}
use Rattle.al_code.specs.Pieces.Piece.{Whole}
use Rattle.al_code.specs.ExprPieces.{of_size, one}
use Rattle.al_code.specs.Templates.{value_of}

-- a count as an operand: no image is large enough for one that doesn't fit
abbrev pub word_of : ℕ → ℕ
word_of n = min n 4294967295

-- the value whose image is put
abbrev pub image_code : ℕ → PieceTree → List Piece
image_code depth (TextPiece bytes) = []
image_code depth (IntegerImage value) = value_of depth value
image_code depth (EnumerationImage value names) = value_of depth value

-- the number of images
abbrev pub is_image : PieceTree → ℕ
is_image (TextPiece bytes) = 0
is_image (IntegerImage value) = 1
is_image (EnumerationImage value names) = 1

abbrev pub images : List PieceTree → ℕ
images ps = sum_by is_image ps

-- one piece, with so many values above its own
abbrev pub piece_code : ℕ → PieceTree → List Piece
piece_code above (TextPiece bytes) = Whole (instr.PutText bytes) ∷ []
piece_code above (IntegerImage value) = of_size sized.PutInteger (word_of above)
piece_code above (EnumerationImage value names) = Whole (instr.PutName (word_of above) (map printed names)) ∷ []

-- the pieces in order: the values of later pieces are above
abbrev pub pieces_code : List PieceTree → List Piece
pieces_code [] = []
pieces_code (p ∷ ps) = piece_code (images ps) p ++ pieces_code ps

abbrev pub line_code : Bool → List Piece
line_code true = one plain.NewLine
line_code false = []

-- the values are dropped
abbrev pub dropped_code : ℕ → List Piece
dropped_code zero = []
dropped_code (suc n) = of_size sized.Drop (word_of (suc n))

abbrev pub emit_code : ℕ → List PieceTree → Bool → List Piece
emit_code depth pieces ends_line = flat_map (image_code depth) pieces ++ pieces_code pieces ++ line_code ends_line ++ dropped_code (images pieces)
