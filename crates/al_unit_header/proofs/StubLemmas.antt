-- The stubs in a declarative part.
use Rattle.std.proofs.Common.{◌≡◌, ℕ, ◌<◌, List, [], ◌∷◌, ◌++◌, map, take, get_or, refl, sym, ap, ◌∙◌, append_assoc, append-nil, ◌+◌, length}
use Rattle.std.proofs.lemmas.List.{take_more}
use Rattle.al_tree_syntax.specs.StatementTrees.{ItemTree}
use Rattle.al_tree.specs.StatementViews.{body_model, item_model, items_of}
use Rattle.al_tree.specs.declared.statement.Item.{Item}
use Rattle.al_tree.specs.declared.statement.SubprogramBody.{SubprogramBody, out-SubprogramBody, roll-out-SubprogramBody}
use Rattle.al_tree.proofs.StatementsMade.{body_new_model}
use Rattle.al_unit_header.specs.Units.{body_items, stub_of, stubs_in}

-- a body's declarative part, by its fields
pub body_items_model : (b : SubprogramBody) → body_items (body_model b) ≡ items_of (map item_model (out-SubprogramBody b).items.items)
body_items_model b = ap (λ c. body_items (body_model c)) (sym (roll-out-SubprogramBody b)) ∙ ap body_items (body_new_model (out-SubprogramBody b).items (out-SubprogramBody b).begin (out-SubprogramBody b).statements (out-SubprogramBody b).end)

stubs_append : (xs ys : List Item) → stubs_in (items_of (map item_model (xs ++ ys))) ≡ stubs_in (items_of (map item_model xs)) ++ stubs_in (items_of (map item_model ys))
stubs_append [] ys = refl
stubs_append (x ∷ xs) ys = ap (λ ns. stub_of (item_model x) ++ ns) (stubs_append xs ys) ∙ sym (append_assoc (stub_of (item_model x)) (stubs_in (items_of (map item_model xs))) (stubs_in (items_of (map item_model ys))))

pub stubs_more : (xs : List Item) (i : ℕ) (x : Item) → i < length xs → x ≡ get_or xs i x → stubs_in (items_of (map item_model (take (i + 1) xs))) ≡ stubs_in (items_of (map item_model (take i xs))) ++ stub_of (item_model x)
stubs_more xs i x less is =
    ap (λ ys. stubs_in (items_of (map item_model ys))) (take_more xs i x less ∙ ap (λ y. take i xs ++ y ∷ []) (sym is))
    ∙ stubs_append (take i xs) (x ∷ [])
    ∙ ap (λ ns. stubs_in (items_of (map item_model (take i xs))) ++ ns) (append-nil (stub_of (item_model x)))

-- what is no stub adds no name
pub unchanged : (ns : List (List ℕ)) (i j : Item) (t : ItemTree) → i ≡ j → item_model j ≡ t → stub_of t ≡ [] → ns ≡ ns ++ stub_of (item_model i)
unchanged ns i j t is seen none = sym (ap (λ ms. ns ++ ms) (ap (λ x. stub_of (item_model x)) is ∙ ap stub_of seen ∙ none) ∙ append-nil ns)
