-- Loops over what has code.
use Rattle.std.proofs.Common.{◌≡◌, ℕ, ◌+◌, ◌<◌, ◌≤◌, List, [], ◌∷◌, ◌++◌, length, map, take, drop, get_or, Option, refl, sym, ap, ◌∙◌, arith}
use Rattle.std.specs.Prelude.{sum_by}
use Rattle.std.specs.List.{flat_map}
use Rattle.std.proofs.lemmas.List.{at_drop_more, get_or_default}
use Rattle.std.proofs.lemmas.List.Sums.{sum_by-cons}
use Rattle.al_view_typed.specs.StatementViews.{piece_model, statement_model, statements_of}
use Rattle.al_view_typed.specs.declared.statement.Piece.{Piece as TextPiece}
use Rattle.al_view_typed.specs.declared.statement.TypedStatement.{TypedStatement}
use Rattle.al_code.specs.Pieces.{Piece}
use Rattle.al_code.specs.Written.{Buffer, written}
use Rattle.al_code.proofs.Writing.{written_all, written_append, written_more}
use Rattle.al_code.specs.ExprPieces.{join}
use Rattle.al_code.proofs.ExprLists.{flat_map-map}
use Rattle.al_code.specs.Images.{is_image, piece_code, pieces_code}
use Rattle.al_code.specs.Statements.{others_code}

-- after all turns
pub written_mapped : {A C : Type 0} (f : C → List Piece) (h : A → C) (w now : Option Buffer) (xs : List A) (i : ℕ) → now ≡ written w (flat_map (λ x. f (h x)) (take i xs)) → length xs ≤ i → now ≡ written w (flat_map f (map h xs))
written_mapped f h w now xs i e le = written_all (λ x. f (h x)) w now xs i e le ∙ ap (λ (ps : List Piece). written w ps) (sym (flat_map-map f h xs))

-- after one more turn, if items are copied
pub written_copied : {A : Type 0} (f : A → List Piece) (w now next : Option Buffer) (xs : List A) (i : ℕ) (d : A) → now ≡ written w (flat_map f (take i xs)) → next ≡ written now (f (get_or xs i d)) → i < length xs → next ≡ written w (flat_map f (take (i + 1) xs))
written_copied f w now next xs i d e step less = written_more f w now next xs i (get_or xs i d) e step (get_or_default xs i d (get_or xs i d) less) less

-- ---- what is put out

-- the images of the pieces from this one on
pub images_turn : (ps : List TextPiece) (i : ℕ) (p : TextPiece) → i < length ps → p ≡ get_or ps i p → sum_by is_image (map piece_model (drop i ps)) ≡ is_image (piece_model p) + sum_by is_image (map piece_model (drop (i + 1) ps))
images_turn ps i p less is =
    at_drop_more (λ (qs : List TextPiece). sum_by is_image (map piece_model qs)) ps i p less
    ∙ ap (λ (q : TextPiece). sum_by is_image (map piece_model (q ∷ drop (i + 1) ps))) (sym is)
    ∙ sum_by-cons is_image (piece_model p) (map piece_model (drop (i + 1) ps))

-- one piece more
pub pieces_more : (out next all : Option Buffer) (ps : List TextPiece) (i : ℕ) (p : TextPiece) (above : ℕ) → above ≡ sum_by is_image (map piece_model (drop (i + 1) ps)) → i < length ps → p ≡ get_or ps i p → written out (pieces_code (map piece_model (drop i ps))) ≡ all → next ≡ written out (piece_code above (piece_model p)) → written next (pieces_code (map piece_model (drop (i + 1) ps))) ≡ all
pieces_more out next all ps i p above count less is e step =
    let turn : pieces_code (map piece_model (drop i ps)) ≡ piece_code (sum_by is_image (map piece_model (drop (i + 1) ps))) (piece_model p) ++ pieces_code (map piece_model (drop (i + 1) ps)) =
    at_drop_more (λ (qs : List TextPiece). pieces_code (map piece_model qs)) ps i p less
    ∙ ap (λ (q : TextPiece). pieces_code (map piece_model (q ∷ drop (i + 1) ps))) (sym is) in
    ap (λ (w : Option Buffer). written w (pieces_code (map piece_model (drop (i + 1) ps)))) (step ∙ ap (λ (n : ℕ). written out (piece_code n (piece_model p))) count)
    ∙ written_append out (piece_code (sum_by is_image (map piece_model (drop (i + 1) ps))) (piece_model p)) (pieces_code (map piece_model (drop (i + 1) ps)))
    ∙ ap (λ (qs : List Piece). written out qs) (sym turn) ∙ e

-- ---- `others`

pub others_none : (ss : List TypedStatement) (p : List Piece) → length ss ≡ 0 → others_code (statements_of (map statement_model ss)) p ≡ []
others_none [] p none = refl
others_none (s ∷ ss) p none = absurd (omega arith)

pub others_some : (ss : List TypedStatement) (p : List Piece) → 0 < length ss → others_code (statements_of (map statement_model ss)) p ≡ p ++ join
others_some [] p some = absurd (omega arith)
others_some (s ∷ ss) p some = refl
