-- Lists as they are numbered from their start.
use Rattle.std.proofs.Common.{◌≡◌, ◌≤◌, ◌++◌, ℕ, List, [], ◌∷◌, map, length, take, refl, sym, ap, ◌∙◌}
use Rattle.std.proofs.lemmas.List.{append-nil, append_assoc, take_all}
use Rattle.std.specs.Prelude.{fold}
use Rattle.al_view_typed.specs.ExpressionTrees.{ActualTree, ValueTree}
use Rattle.al_view_typed.specs.ExpressionTrees.ActualsTree.{MoreActuals}
use Rattle.al_view_typed.specs.ExpressionTrees.ValuesTree.{MoreValues}
use Rattle.al_view_typed.specs.ExpressionViews.{actual_model, actuals_of, value_model, values_of}
use Rattle.al_view_typed.specs.Listed.{listed}
use Rattle.al_view_typed.specs.declared.expression.Actual.{Actual}
use Rattle.al_view_typed.specs.declared.expression.CheckedValue.{CheckedValue}
use Rattle.al_view_typed.specs.StatementTrees.{PieceTree}
use Rattle.al_view_typed.specs.StatementViews.{piece_model}
use Rattle.al_view_typed.specs.declared.statement.Piece.{Piece}
use Rattle.al_overload_slots.specs.Pieces.{piece_after, piece_numbered, pieces_after, pieces_numbered}
use Rattle.al_overload_slots.specs.Slots.{actual_after, actual_numbered, actuals_after, actuals_numbered, value_after, value_numbered, values_after, values_numbered}

-- one more value, and one more actual: the next word, and the list so far
abbrev pub with_value : ℕ × List ValueTree → CheckedValue → ℕ × List ValueTree
with_value so_far v = (value_after so_far.0 (value_model v), so_far.1 ++ (value_numbered so_far.0 (value_model v) ∷ []))

abbrev pub with_actual : ℕ × List ActualTree → Actual → ℕ × List ActualTree
with_actual so_far a = (actual_after so_far.0 (actual_model a), so_far.1 ++ (actual_numbered so_far.0 (actual_model a) ∷ []))

-- one thing after a list that a tree has in a form of its own
pub listed_after : {A B : Type 0} (more : A → B → B) (rest : B) (xs : List A) (x : A) → listed more rest (xs ++ (x ∷ [])) ≡ listed more (more x rest) xs
listed_after more rest [] x = refl
listed_after more rest (y ∷ xs) x = ap (more y) (listed_after more rest xs x)

pub values_word : (word : ℕ) (done : List ValueTree) (vs : List CheckedValue) → (fold with_value (word, done) vs).0 ≡ values_after word (values_of (map value_model vs))
values_word word done [] = refl
values_word word done (v ∷ vs) = values_word (value_after word (value_model v)) (done ++ (value_numbered word (value_model v) ∷ [])) vs

pub values_list : (word : ℕ) (done : List ValueTree) (vs : List CheckedValue) → values_of (fold with_value (word, done) vs).1 ≡ listed MoreValues (values_numbered word (values_of (map value_model vs))) done
values_list word done [] = refl
values_list word done (v ∷ vs) =
    values_list (value_after word (value_model v)) (done ++ (value_numbered word (value_model v) ∷ [])) vs
    ∙ listed_after MoreValues (values_numbered (value_after word (value_model v)) (values_of (map value_model vs))) done (value_numbered word (value_model v))

pub actuals_word : (word : ℕ) (done : List ActualTree) (as_ : List Actual) → (fold with_actual (word, done) as_).0 ≡ actuals_after word (actuals_of (map actual_model as_))
actuals_word word done [] = refl
actuals_word word done (a ∷ as_) = actuals_word (actual_after word (actual_model a)) (done ++ (actual_numbered word (actual_model a) ∷ [])) as_

pub actuals_list : (word : ℕ) (done : List ActualTree) (as_ : List Actual) → actuals_of (fold with_actual (word, done) as_).1 ≡ listed MoreActuals (actuals_numbered word (actuals_of (map actual_model as_))) done
actuals_list word done [] = refl
actuals_list word done (a ∷ as_) =
    actuals_list (actual_after word (actual_model a)) (done ++ (actual_numbered word (actual_model a) ∷ [])) as_
    ∙ listed_after MoreActuals (actuals_numbered (actual_after word (actual_model a)) (actuals_of (map actual_model as_))) done (actual_numbered word (actual_model a))

-- the same of pieces
abbrev pub with_piece : ℕ × List PieceTree → Piece → ℕ × List PieceTree
with_piece so_far p = (piece_after so_far.0 (piece_model p), so_far.1 ++ (piece_numbered so_far.0 (piece_model p) ∷ []))

pub pieces_word : (word : ℕ) (done : List PieceTree) (ps : List Piece) → (fold with_piece (word, done) ps).0 ≡ pieces_after word (map piece_model ps)
pieces_word word done [] = refl
pieces_word word done (p ∷ ps) = pieces_word (piece_after word (piece_model p)) (done ++ (piece_numbered word (piece_model p) ∷ [])) ps

pub pieces_list : (word : ℕ) (done : List PieceTree) (ps : List Piece) → (fold with_piece (word, done) ps).1 ≡ done ++ pieces_numbered word (map piece_model ps)
pieces_list word done [] = sym (append-nil done)
pieces_list word done (p ∷ ps) =
    pieces_list (piece_after word (piece_model p)) (done ++ (piece_numbered word (piece_model p) ∷ [])) ps
    ∙ append_assoc done (piece_numbered word (piece_model p) ∷ []) (pieces_numbered (piece_after word (piece_model p)) (map piece_model ps))

pub values_end_word : (word after i : ℕ) (xs ys : List CheckedValue) → (after, map value_model (take i xs)) ≡ fold with_value (word, []) (take i ys) → length ys ≤ i
    → after ≡ values_after word (values_of (map value_model ys))
values_end_word word after i xs ys inv past =
    ap (λ (p : ℕ × List ValueTree). p.0) inv ∙ ap (λ (l : List CheckedValue). (fold with_value (word, []) l).0) (take_all i ys past) ∙ values_word word [] ys

pub values_end_tree : (word after i : ℕ) (xs ys : List CheckedValue) → (after, map value_model (take i xs)) ≡ fold with_value (word, []) (take i ys) → length ys ≤ i → length xs ≤ i
    → (values_of (map value_model xs)) ≡ values_numbered word (values_of (map value_model ys))
values_end_tree word after i xs ys inv past over =
    sym (ap (λ (l : List CheckedValue). (values_of (map value_model l))) (take_all i xs over))
    ∙ ap (λ (p : ℕ × List ValueTree). values_of p.1) inv
    ∙ ap (λ (l : List CheckedValue). values_of (fold with_value (word, []) l).1) (take_all i ys past)
    ∙ values_list word [] ys

pub actuals_end_word : (word after i : ℕ) (xs ys : List Actual) → (after, map actual_model (take i xs)) ≡ fold with_actual (word, []) (take i ys) → length ys ≤ i
    → after ≡ actuals_after word (actuals_of (map actual_model ys))
actuals_end_word word after i xs ys inv past =
    ap (λ (p : ℕ × List ActualTree). p.0) inv ∙ ap (λ (l : List Actual). (fold with_actual (word, []) l).0) (take_all i ys past) ∙ actuals_word word [] ys

pub actuals_end_tree : (word after i : ℕ) (xs ys : List Actual) → (after, map actual_model (take i xs)) ≡ fold with_actual (word, []) (take i ys) → length ys ≤ i → length xs ≤ i
    → (actuals_of (map actual_model xs)) ≡ actuals_numbered word (actuals_of (map actual_model ys))
actuals_end_tree word after i xs ys inv past over =
    sym (ap (λ (l : List Actual). (actuals_of (map actual_model l))) (take_all i xs over))
    ∙ ap (λ (p : ℕ × List ActualTree). actuals_of p.1) inv
    ∙ ap (λ (l : List Actual). actuals_of (fold with_actual (word, []) l).1) (take_all i ys past)
    ∙ actuals_list word [] ys

pub pieces_end_word : (word after i : ℕ) (xs ys : List Piece) → (after, map piece_model (take i xs)) ≡ fold with_piece (word, []) (take i ys) → length ys ≤ i
    → after ≡ pieces_after word (map piece_model ys)
pieces_end_word word after i xs ys inv past =
    ap (λ (p : ℕ × List PieceTree). p.0) inv ∙ ap (λ (l : List Piece). (fold with_piece (word, []) l).0) (take_all i ys past) ∙ pieces_word word [] ys

pub pieces_end_tree : (word after i : ℕ) (xs ys : List Piece) → (after, map piece_model (take i xs)) ≡ fold with_piece (word, []) (take i ys) → length ys ≤ i → length xs ≤ i
    → (map piece_model xs) ≡ pieces_numbered word (map piece_model ys)
pieces_end_tree word after i xs ys inv past over =
    sym (ap (λ (l : List Piece). (map piece_model l)) (take_all i xs over))
    ∙ ap (λ (p : ℕ × List PieceTree). p.1) inv
    ∙ ap (λ (l : List Piece). (fold with_piece (word, []) l).1) (take_all i ys past)
    ∙ pieces_list word [] ys
