use Rattle.std.proofs.Common.{◌≡◌, ◌≤◌, map, take}
use Rattle.std.specs.Prelude.{sum_by}
use Rattle.al_view_typed.specs.StatementViews.{piece_model}
use Rattle.al_code.specs.Images.{is_image}
use Rattle.al_code.proofs.images.image_count.Given as goal

abbrev pub invariant-loop-piece : goal.invariant-loop-piece
invariant-loop-piece l = record { value : l.count ≡ sum_by is_image (map piece_model (take l.piece-index l.pieces)); few : l.count ≤ l.piece-index }
