use Rattle.std.proofs.Common.{◌≡◌, ◌≤◌, ℕ, [], map, take, length, get_or}
use Rattle.std.specs.Prelude.{fold}
use Rattle.al_view_typed.specs.StatementViews.{piece_model}
use Rattle.al_view_typed.specs.declared.statement.Piece.{Piece}
use Rattle.al_overload_slots.proofs.Gathered.{with_piece}
use Rattle.al_overload_slots.proofs.pieces.number_pieces.Given as goal

abbrev pub invariant-loop-piece : goal.invariant-loop-piece
invariant-loop-piece l =
    (length l.piece-items ≡ length l.initial.piece-items)
    × ((k : ℕ) (d : Piece) → l.piece-index ≤ k → get_or l.piece-items k d ≡ get_or l.initial.piece-items k d)
    × ((l.after, map piece_model (take l.piece-index l.piece-items)) ≡ fold with_piece (l.word, []) (take l.piece-index l.initial.piece-items))
