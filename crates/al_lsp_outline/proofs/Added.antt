-- What was added to a list, in two steps.
use Rattle.std.proofs.Common.{◌≡◌, ℕ, List, [], ◌∷◌, ◌++◌, map, Result, OnOk, sym, ap, ◌∙◌, append_assoc}
use Rattle.std.proofs.lemmas.Result.{on_ok_weaker}
use Rattle.al_tree_syntax.specs.DeclarationTrees.{SpecificationTree}
use Rattle.al_base.specs.declared.place.Place.{Place}
use Rattle.al_tree.specs.Lexemes.{identifier_label, place_label}
use Rattle.al_tree.specs.StatementViews.{body_model, handled_model, item_model, items_of, operation_bodies_of, operation_body_model}
use Rattle.al_tree.specs.declared.names.Identifier.{Identifier}
use Rattle.al_tree.specs.declared.statement.DeclaredStatements.{DeclaredStatements, out-DeclaredStatements}
use Rattle.al_tree.specs.declared.statement.Item.{Item}
use Rattle.al_tree.specs.declared.statement.Item.TheVariants as items
use Rattle.al_tree.specs.declared.statement.NamedEnd.{NamedEnd}
use Rattle.al_tree.specs.declared.statement.OperationBody.{OperationBody}
use Rattle.al_tree.specs.declared.statement.SubprogramBody.{SubprogramBody, out-SubprogramBody}
use Rattle.al_tree.proofs.StatementsMade.{item_protected_body_model}
use Rattle.std.proofs.Common.{Vec, Global}
use Rattle.al_lsp_outline.specs.Bodies.{body_declared, ended, handled_declared, item_declared, items_declared, operations_declared}
use Rattle.al_lsp_outline.specs.Named.{deeper}
use Rattle.al_lsp_outline.specs.Parts.{subprogram_declared}
use Rattle.al_lsp_outline.specs.declared.declared.DeclaredKind.{DeclaredKind}
use Rattle.al_lsp_outline.specs.declared.declared.DeclaredKind.TheVariants as kinds
use Rattle.al_lsp_outline.proofs.Layers.{body_layers, handled_layers}

pub added_then : {X T E : Type 0} (r : Result T E) (old mid new xs ys all : List X) → mid ≡ old ++ xs → xs ++ ys ≡ all → OnOk r (new ≡ mid ++ ys) → OnOk r (new ≡ old ++ all)
added_then r old mid new xs ys all first is then = on_ok_weaker r (λ e. e ∙ ap (λ ns. ns ++ ys) first ∙ append_assoc old xs ys ∙ ap (λ ns. old ++ ns) is) then

pub body_parts : (depth inner : ℕ) (s : SpecificationTree) (b : SubprogramBody) (is : List Item) → inner ≡ deeper depth → is ≡ (out-SubprogramBody b).items.items → subprogram_declared depth s (place_label (out-SubprogramBody b).end.end) ++ items_declared inner (items_of (map item_model is)) ≡ body_declared depth s (body_model b)
body_parts depth inner s b is deep same =
    ap (λ d. subprogram_declared depth s (place_label (out-SubprogramBody b).end.end) ++ items_declared d (items_of (map item_model is))) deep
    ∙ ap (λ js. subprogram_declared depth s (place_label (out-SubprogramBody b).end.end) ++ items_declared (deeper depth) (items_of (map item_model js))) same
    ∙ sym (ap (body_declared depth s) (body_layers b))

pub handled_parts : (kind : DeclaredKind) (depth inner : ℕ) (name : Identifier) (h : DeclaredStatements) (is : List Item) → inner ≡ deeper depth → is ≡ (out-DeclaredStatements h).items.items → (ended kind depth (identifier_label name) (place_label (out-DeclaredStatements h).end.end) ∷ []) ++ items_declared inner (items_of (map item_model is)) ≡ handled_declared kind depth (identifier_label name) (handled_model h)
handled_parts kind depth inner name h is deep same =
    ap (λ d. ended kind depth (identifier_label name) (place_label (out-DeclaredStatements h).end.end) ∷ items_declared d (items_of (map item_model is))) deep
    ∙ ap (λ js. ended kind depth (identifier_label name) (place_label (out-DeclaredStatements h).end.end) ∷ items_declared (deeper depth) (items_of (map item_model js))) same
    ∙ sym (ap (handled_declared kind depth (identifier_label name)) (handled_layers h))

pub protected_parts : (depth inner : ℕ) (opening : Place) (name : Identifier) (os : Vec OperationBody Global) (end : NamedEnd) (slice : List OperationBody) (item : Item) → inner ≡ deeper depth → slice ≡ os.items → item ≡ items.ProtectedBodyItem opening name os end → (ended kinds.Protected depth (identifier_label name) (place_label end.end) ∷ []) ++ operations_declared inner (operation_bodies_of (map operation_body_model slice)) ≡ item_declared depth (item_model item)
protected_parts depth inner opening name os end slice item deep same is =
    ap (λ d. ended kinds.Protected depth (identifier_label name) (place_label end.end) ∷ operations_declared d (operation_bodies_of (map operation_body_model slice))) deep
    ∙ ap (λ js. ended kinds.Protected depth (identifier_label name) (place_label end.end) ∷ operations_declared (deeper depth) (operation_bodies_of (map operation_body_model js))) same
    ∙ sym (ap (λ i. item_declared depth (item_model i)) is ∙ ap (item_declared depth) (item_protected_body_model opening name os end))
