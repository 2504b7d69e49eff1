-- The words of the temporaries in what is put, one piece after the other.
use Rattle.std.specs.Prelude.{ℕ, List, [], ◌∷◌}
use Rattle.al_view_typed.specs.StatementTrees.{PieceTree}
use Rattle.al_view_typed.specs.StatementTrees.PieceTree.{TextPiece, IntegerImage, EnumerationImage}
use Rattle.al_overload_slots.specs.Slots.{after, numbered}

abbrev pub piece_after : ℕ → PieceTree → ℕ
piece_after word (TextPiece bytes) = word
piece_after word (IntegerImage value) = after word value
piece_after word (EnumerationImage value names) = after word value

abbrev pub piece_numbered : ℕ → PieceTree → PieceTree
piece_numbered word (TextPiece bytes) = TextPiece bytes
piece_numbered word (IntegerImage value) = IntegerImage (numbered word value)
piece_numbered word (EnumerationImage value names) = EnumerationImage (numbered word value) names

abbrev pub pieces_after : ℕ → List PieceTree → ℕ
pieces_after word [] = word
pieces_after word (p ∷ ps) = pieces_after (piece_after word p) ps

abbrev pub pieces_numbered : ℕ → List PieceTree → List PieceTree
pieces_numbered word [] = []
pieces_numbered word (p ∷ ps) = piece_numbered word p ∷ pieces_numbered (piece_after word p) ps
