-- Bodies of a text by their fields.
use Rattle.std.proofs.Common.{◌≡◌, map, sym, ap, ◌∙◌}
use Rattle.al_tree_syntax.specs.StatementTrees.{BodyTree as body_trees}
use Rattle.al_tree.specs.Lexemes.{place_label}
use Rattle.al_tree.specs.StatementViews.{body_model, compound_end_model, item_model, items_of, statements_model}
use Rattle.al_tree.specs.declared.statement.SubprogramBody.{SubprogramBody, out-SubprogramBody, roll-out-SubprogramBody}
use Rattle.al_tree.proofs.StatementsMade.{body_new_model}

pub body_layers : (b : SubprogramBody) → body_model b ≡ body_trees.Body (items_of (map item_model (out-SubprogramBody b).items.items)) (place_label (out-SubprogramBody b).begin) (statements_model (out-SubprogramBody b).statements) (compound_end_model (out-SubprogramBody b).end)
body_layers b = ap body_model (sym (roll-out-SubprogramBody b)) ∙ body_new_model (out-SubprogramBody b).items (out-SubprogramBody b).begin (out-SubprogramBody b).statements (out-SubprogramBody b).end
