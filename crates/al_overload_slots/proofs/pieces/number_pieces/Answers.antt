use Rattle.std.proofs.Common.{◌≡◌, [], map, take, List, length, ap, subst, ◌∙◌, arith}
use Rattle.std.specs.Prelude.{fold}
use Rattle.std.proofs.lemmas.List.{with_items_is}
use Rattle.al_view_typed.specs.StatementViews.{piece_model}
use Rattle.al_view_typed.specs.declared.statement.Piece.{Piece}
use Rattle.al_overload_slots.proofs.Gathered.{pieces_end_tree, pieces_end_word, with_piece}
use Rattle.al_overload_slots.proofs.pieces.number_pieces.Goals as goal

pub returns-clause-word : goal.returns-clause-word
returns-clause-word c =
    let e : c.deref_mut-piece-items.result.now ≡ c.args.pieces.now.items = c.deref_mut-piece-items.ensures.value in
    pieces_end_word c.args.word c.loop-piece.after c.loop-piece.piece-index c.loop-piece.piece-items c.args.pieces.now.items
    (subst (λ (zs : List Piece). (c.loop-piece.after, map piece_model (take c.loop-piece.piece-index c.loop-piece.piece-items)) ≡ fold with_piece (c.args.word, []) (take c.loop-piece.piece-index zs)) e c.loop-piece.invariant.2)
    (omega (arith, ap length e))

pub returns-clause-tree : goal.returns-clause-tree
returns-clause-tree c =
    let e : c.deref_mut-piece-items.result.now ≡ c.args.pieces.now.items = c.deref_mut-piece-items.ensures.value in
    ap (λ (zs : List Piece). map piece_model zs) (with_items_is c.args.pieces.now c.loop-piece.piece-items (omega (arith, ap length e, c.args.pieces.now.ok.0, c.loop-piece.invariant.0)))
    ∙ pieces_end_tree c.args.word c.loop-piece.after c.loop-piece.piece-index c.loop-piece.piece-items c.args.pieces.now.items
    (subst (λ (zs : List Piece). (c.loop-piece.after, map piece_model (take c.loop-piece.piece-index c.loop-piece.piece-items)) ≡ fold with_piece (c.args.word, []) (take c.loop-piece.piece-index zs)) e c.loop-piece.invariant.2)
    (omega (arith, ap length e)) (omega (arith, ap length e, c.loop-piece.invariant.0))
