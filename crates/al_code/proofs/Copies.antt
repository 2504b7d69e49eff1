-- What is copied back, from the last.
use Rattle.std.proofs.Common.{◌≡◌, ℕ, suc, ◌-◌, ◌<◌, ◌≤◌, List, [], ◌∷◌, length, drop, get_or, map, Option, refl, sym, ap, ◌∙◌, arith}
use Rattle.std.proofs.Math.Seq.{drop-cons}
use Rattle.std.proofs.lemmas.List.{drop_at, append-nil}
use Rattle.al_view_typed.specs.ExpressionViews.{actual_model, actuals_of}
use Rattle.al_view_typed.specs.declared.expression.Actual.{Actual}
use Rattle.al_code.specs.Written.{Buffer, written}
use Rattle.al_code.specs.Templates.{copies_code, copy_code}
use Rattle.al_code.proofs.Writing.{written_append}

pub drop_all : (xs : List Actual) → drop (length xs) xs ≡ []
drop_all xs = ap (λ (ys : List Actual). drop (length xs) ys) (sym (append-nil xs)) ∙ drop_at xs [] (length xs) refl

drop_one : (xs : List Actual) (n : ℕ) (x : Actual) → 0 < n → n ≤ length xs → x ≡ get_or xs (n - 1) x → drop (n - 1) xs ≡ x ∷ drop n xs
drop_one xs n x some within is =
    let e : suc (n - 1) ≡ n = omega arith in
    drop-cons xs (n - 1) x (omega arith) ∙ ap (λ (y : Actual). y ∷ drop (suc (n - 1)) xs) (sym is) ∙ ap (λ (k : ℕ). x ∷ drop k xs) e

pub copied_more : (w now next : Option Buffer) (xs : List Actual) (n : ℕ) (x : Actual) → 0 < n → n ≤ length xs → x ≡ get_or xs (n - 1) x → now ≡ written w (copies_code (actuals_of (map actual_model (drop n xs)))) → next ≡ written now (copy_code (actual_model x)) → next ≡ written w (copies_code (actuals_of (map actual_model (drop (n - 1) xs))))
copied_more w now next xs n x some within is e step =
    step ∙ ap (λ (v : Option Buffer). written v (copy_code (actual_model x))) e
    ∙ written_append w (copies_code (actuals_of (map actual_model (drop n xs)))) (copy_code (actual_model x))
    ∙ ap (λ (ys : List Actual). written w (copies_code (actuals_of (map actual_model ys)))) (sym (drop_one xs n x some within is))
