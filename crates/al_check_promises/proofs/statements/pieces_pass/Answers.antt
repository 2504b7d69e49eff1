use Rattle.std.specs.List.{list_all}
use Rattle.al_view_typed.specs.StatementViews.{piece_model}
use Rattle.al_view_typed.specs.Uses.{piece_uses}
use Rattle.al_check_promises.proofs.Listed.{all_mapped, ends, stops}
use Rattle.al_check_promises.specs.Rules.{permits}
use Rattle.al_check_promises.proofs.statements.pieces_pass.Goals as goal

pub returns-then-not-piece_passes : goal.returns-then-not-piece_passes
returns-then-not-piece_passes c =
    let p = permits c.args.test.now in
    stops (λ x. list_all p (piece_uses (piece_model x))) c.args.pieces.now c.loop-piece.piece-index c.piece-item.result c.piece_passes.result _
    c.piece-item.is c.loop-piece-test.true c.piece_passes.ensures c.if-not-piece_passes.true (all_mapped p piece_uses piece_model c.args.pieces.now)

pub returns : goal.returns
returns c =
    let p = permits c.args.test.now in
    ends (λ x. list_all p (piece_uses (piece_model x))) c.args.pieces.now c.loop-piece.piece-index _
    c.loop-piece-test.false c.loop-piece.invariant (all_mapped p piece_uses piece_model c.args.pieces.now)
