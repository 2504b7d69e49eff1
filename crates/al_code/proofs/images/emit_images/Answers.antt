use Rattle.std.proofs.Common.{sym}
use Rattle.al_view_typed.specs.StatementViews.{piece_model}
use Rattle.al_code.specs.Images.{image_code}
use Rattle.al_code.proofs.Writing.{written_nothing, written_more}
use Rattle.al_code.proofs.Lists.{written_mapped}
use Rattle.al_code.proofs.images.emit_images.Goals as goal

pub loop-piece-init : goal.loop-piece-init
loop-piece-init c = sym (written_nothing c.args.out.now)

pub loop-piece-preserved : goal.loop-piece-preserved
loop-piece-preserved c =
    written_more (λ x. image_code c.args.depth (piece_model x)) c.args.out.now c.loop-piece.out c.emit_image.new.out c.args.pieces.now c.loop-piece.piece-index c.piece-item.result
    c.loop-piece.invariant c.in_ok-emit_image.ensures c.piece-item.is c.loop-piece-test.true

pub returns : goal.returns
returns c = written_mapped (image_code c.args.depth) piece_model c.args.out.now c.loop-piece.out c.args.pieces.now c.loop-piece.piece-index c.loop-piece.invariant c.loop-piece-test.false
