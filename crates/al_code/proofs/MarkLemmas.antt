-- Whether there is something.
use Rattle.std.proofs.Common.{◌≡◌, ℕ, ◌+◌, ◌<◌, get_or, drop, add-one, sym, ap, ◌∙◌, Bool, true, false, ◌||◌, List, [], ◌∷◌, length, map, refl, arith}
use Rattle.std.proofs.Math.Seq.{drop-cons}
use Rattle.al_view_typed.specs.StatementTrees.{BranchTree, StatementTree}
use Rattle.al_view_typed.specs.StatementViews.{branches_of, statement_form_model, statement_model, statements_of}
use Rattle.al_view_typed.specs.declared.statement.TypedStatement.{TypedStatement, out-TypedStatement}
use Rattle.al_code.specs.Marks.{has_branch, has_code, is_some_of, statement_has_code, statements_have_code}
use Rattle.al_code.proofs.Layers.{statement_layers}

pub no_pieces : {A B : Type 0} (b : Bool) (f : A → B) (xs : List A) → length xs ≡ 0 → (b || is_some_of (map f xs)) ≡ b
no_pieces true f [] e = refl
no_pieces false f [] e = refl
no_pieces b f (x ∷ xs) e = absurd (omega arith)

pub some_pieces : {A B : Type 0} (b : Bool) (f : A → B) (xs : List A) → 0 < length xs → (b || is_some_of (map f xs)) ≡ true
some_pieces b f [] lt = absurd (omega arith)
some_pieces true f (x ∷ xs) lt = refl
some_pieces false f (x ∷ xs) lt = refl

pub branch_there : {A : Type 0} (f : A → BranchTree) (xs : List A) → has_branch (branches_of (map f xs)) ≡ is_some_of xs
branch_there f [] = refl
branch_there f (x ∷ xs) = refl

abbrev rest : List TypedStatement → ℕ → Bool
rest xs i = statements_have_code (statements_of (map statement_model (drop i xs)))

more_code : (xs : List TypedStatement) (i : ℕ) (x : TypedStatement) → i < length xs → x ≡ get_or xs i x → rest xs i ≡ (has_code (statement_form_model (out-TypedStatement x).form) || rest xs (i + 1))
more_code xs i x lt at =
    let e : drop i xs ≡ x ∷ drop (i + 1) xs = drop-cons xs i x lt ∙ ap (λ (n : ℕ). get_or xs i x ∷ drop n xs) (sym (add-one i)) ∙ ap (λ (y : TypedStatement). y ∷ drop (i + 1) xs) (sym at) in
    ap (λ (ys : List TypedStatement). statements_have_code (statements_of (map statement_model ys))) e
    ∙ ap (λ (y : StatementTree). statement_has_code y || rest xs (i + 1)) (statement_layers x)

pub code_here : (xs : List TypedStatement) (i : ℕ) (x : TypedStatement) → i < length xs → x ≡ get_or xs i x → has_code (statement_form_model (out-TypedStatement x).form) ≡ true → rest xs i ≡ true
code_here xs i x lt at h = more_code xs i x lt at ∙ ap (λ (b : Bool). b || rest xs (i + 1)) h

pub no_code_here : (xs : List TypedStatement) (i : ℕ) (x : TypedStatement) → i < length xs → x ≡ get_or xs i x → has_code (statement_form_model (out-TypedStatement x).form) ≡ false → rest xs i ≡ rest xs (i + 1)
no_code_here xs i x lt at h = more_code xs i x lt at ∙ ap (λ (b : Bool). b || rest xs (i + 1)) h
