-- What items declare, one after the other.
use Rattle.std.proofs.Common.{◌≡◌, ℕ, ◌+◌, ◌<◌, List, [], ◌∷◌, ◌++◌, map, take, get_or, length, refl, sym, ap, ◌∙◌, append_assoc, append-nil}
use Rattle.std.proofs.lemmas.List.{take_more}
use Rattle.al_tree.specs.StatementViews.{item_model, items_of, operation_bodies_of, operation_body_model}
use Rattle.al_tree.specs.declared.statement.Item.{Item}
use Rattle.al_tree.specs.declared.statement.OperationBody.{OperationBody}
use Rattle.al_lsp_outline.specs.Bodies.{item_declared, items_declared, operation_declared, operations_declared}
use Rattle.al_lsp_outline.specs.declared.declared.Declared.{Declared}

items_append : (depth : ℕ) (xs ys : List Item) → items_declared depth (items_of (map item_model (xs ++ ys))) ≡ items_declared depth (items_of (map item_model xs)) ++ items_declared depth (items_of (map item_model ys))
items_append depth [] ys = refl
items_append depth (x ∷ xs) ys = ap (λ ns. item_declared depth (item_model x) ++ ns) (items_append depth xs ys) ∙ sym (append_assoc (item_declared depth (item_model x)) (items_declared depth (items_of (map item_model xs))) (items_declared depth (items_of (map item_model ys))))

-- one more item after those that were added to a list
pub items_more : (depth : ℕ) (list before after : List Declared) (xs : List Item) (i : ℕ) (x : Item) → i < length xs → x ≡ get_or xs i x → before ≡ list ++ items_declared depth (items_of (map item_model (take i xs))) → after ≡ before ++ item_declared depth (item_model x) → after ≡ list ++ items_declared depth (items_of (map item_model (take (i + 1) xs)))
items_more depth list before after xs i x less is had added =
    added
    ∙ ap (λ ns. ns ++ item_declared depth (item_model x)) had
    ∙ append_assoc list (items_declared depth (items_of (map item_model (take i xs)))) (item_declared depth (item_model x))
    ∙ ap (λ ns. list ++ ns) (sym (ap (λ ys. items_declared depth (items_of (map item_model ys))) (take_more xs i x less ∙ ap (λ y. take i xs ++ y ∷ []) (sym is))
    ∙ items_append depth (take i xs) (x ∷ [])
    ∙ ap (λ ns. items_declared depth (items_of (map item_model (take i xs))) ++ ns) (append-nil (item_declared depth (item_model x)))))

operations_append : (depth : ℕ) (xs ys : List OperationBody) → operations_declared depth (operation_bodies_of (map operation_body_model (xs ++ ys))) ≡ operations_declared depth (operation_bodies_of (map operation_body_model xs)) ++ operations_declared depth (operation_bodies_of (map operation_body_model ys))
operations_append depth [] ys = refl
operations_append depth (x ∷ xs) ys = ap (λ ns. operation_declared depth (operation_body_model x) ++ ns) (operations_append depth xs ys) ∙ sym (append_assoc (operation_declared depth (operation_body_model x)) (operations_declared depth (operation_bodies_of (map operation_body_model xs))) (operations_declared depth (operation_bodies_of (map operation_body_model ys))))

pub operations_more : (depth : ℕ) (list before after : List Declared) (xs : List OperationBody) (i : ℕ) (x : OperationBody) → i < length xs → x ≡ get_or xs i x → before ≡ list ++ operations_declared depth (operation_bodies_of (map operation_body_model (take i xs))) → after ≡ before ++ operation_declared depth (operation_body_model x) → after ≡ list ++ operations_declared depth (operation_bodies_of (map operation_body_model (take (i + 1) xs)))
operations_more depth list before after xs i x less is had added =
    added
    ∙ ap (λ ns. ns ++ operation_declared depth (operation_body_model x)) had
    ∙ append_assoc list (operations_declared depth (operation_bodies_of (map operation_body_model (take i xs)))) (operation_declared depth (operation_body_model x))
    ∙ ap (λ ns. list ++ ns) (sym (ap (λ ys. operations_declared depth (operation_bodies_of (map operation_body_model ys))) (take_more xs i x less ∙ ap (λ y. take i xs ++ y ∷ []) (sym is))
    ∙ operations_append depth (take i xs) (x ∷ [])
    ∙ ap (λ ns. operations_declared depth (operation_bodies_of (map operation_body_model (take i xs))) ++ ns) (append-nil (operation_declared depth (operation_body_model x)))))
