use Rattle.std.proofs.Common.{◌≡◌, drop}
use Rattle.std.specs.List.{list_all}
use Rattle.al_view_typed.specs.StatementViews.{piece_model}
use Rattle.al_view_typed.specs.Uses.{piece_uses}
use Rattle.al_check_promises.specs.Rules.{permits}
use Rattle.al_check_promises.proofs.statements.pieces_pass.Given as goal

abbrev pub invariant-loop-piece : goal.invariant-loop-piece
invariant-loop-piece l =
    list_all (λ x. list_all (permits l.test) (piece_uses (piece_model x))) (drop l.piece-index l.pieces)
    ≡ list_all (λ x. list_all (permits l.test) (piece_uses (piece_model x))) l.pieces
