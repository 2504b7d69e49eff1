use Rattle.std.proofs.Common.{◌≡◌, map, drop}
use Rattle.std.specs.Prelude.{sum_by}
use Rattle.al_view_typed.specs.StatementViews.{piece_model}
use Rattle.al_code.specs.Written.{written}
use Rattle.al_code.specs.Images.{is_image, pieces_code}
use Rattle.al_code.proofs.images.emit_pieces.Given as goal

abbrev pub invariant-loop-piece : goal.invariant-loop-piece
invariant-loop-piece l = record { above : l.above ≡ sum_by is_image (map piece_model (drop l.piece-index l.pieces)); now : written l.out (pieces_code (map piece_model (drop l.piece-index l.pieces))) ≡ written l.initial.out (pieces_code (map piece_model l.pieces)) }
