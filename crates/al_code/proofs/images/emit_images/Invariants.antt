use Rattle.std.proofs.Common.{◌≡◌, take}
use Rattle.std.specs.List.{flat_map}
use Rattle.al_view_typed.specs.StatementViews.{piece_model}
use Rattle.al_code.specs.Written.{written}
use Rattle.al_code.specs.Images.{image_code}
use Rattle.al_code.proofs.images.emit_images.Given as goal

abbrev pub invariant-loop-piece : goal.invariant-loop-piece
invariant-loop-piece l = l.out ≡ written l.initial.out (flat_map (λ x. image_code l.depth (piece_model x)) (take l.piece-index l.pieces))
