use Rattle.std.proofs.Common.{◌≡◌, ◌+◌, ◌-◌, List, map, drop, sym, ◌∙◌, arith}
use Rattle.std.specs.Prelude.{sum_by}
use Rattle.std.proofs.lemmas.List.{at_drop_all}
use Rattle.al_view_typed.specs.StatementViews.{piece_model}
use Rattle.al_view_typed.specs.declared.statement.Piece.{Piece}
use Rattle.al_code.specs.Written.{written}
use Rattle.al_code.proofs.Writing.{written_nothing}
use Rattle.al_code.specs.Images.{is_image, pieces_code}
use Rattle.al_code.proofs.Lists.{images_turn, pieces_more}
use Rattle.al_code.proofs.images.emit_pieces.Goals as goal

pub loop-piece-preserved : goal.loop-piece-preserved
loop-piece-preserved c =
    let i = c.loop-piece.piece-index in
    let turn = images_turn c.args.pieces.now i c.piece-item.result c.loop-piece-test.true c.piece-item.is in
    let above : c.loop-piece.above - c.of_image-above.result ≡ sum_by is_image (map piece_model (drop (i + 1) c.args.pieces.now)) = omega (arith, c.loop-piece.invariant.above, turn, c.of_image-above.ensures.value) in
    record {
      above = above;
      now = pieces_more c.loop-piece.out c.emit_piece.new.out (written c.args.out.now (pieces_code (map piece_model c.args.pieces.now))) c.args.pieces.now i c.piece-item.result
          (c.loop-piece.above - c.of_image-above.result) above c.loop-piece-test.true c.piece-item.is c.loop-piece.invariant.now c.in_ok-emit_piece.ensures;
    }

pub returns : goal.returns
returns c =
    sym (written_nothing c.loop-piece.out)
    ∙ sym (at_drop_all (λ (ps : List Piece). written c.loop-piece.out (pieces_code (map piece_model ps))) c.args.pieces.now c.loop-piece.piece-index c.loop-piece-test.false)
    ∙ c.loop-piece.invariant.now
