-- Bodies by their fields.
use Rattle.std.proofs.Common.{◌≡◌, map, sym, ap, ◌∙◌}
use Rattle.al_tree_syntax.specs.StatementTrees.{BodyTree as body_trees, HandledTree as handled_trees}
use Rattle.al_tree.specs.Lexemes.{place_label}
use Rattle.al_tree.specs.StatementViews.{body_model, compound_end_model, handled_model, item_model, items_of, named_end_model, statements_model}
use Rattle.al_tree.specs.declared.statement.SubprogramBody.{SubprogramBody, out-SubprogramBody, roll-out-SubprogramBody}
use Rattle.al_tree.specs.declared.statement.DeclaredStatements.{DeclaredStatements, out-DeclaredStatements, roll-out-DeclaredStatements}
use Rattle.al_tree.proofs.StatementsMade.{body_new_model, handled_new_model}

pub body_layers : (b : SubprogramBody) → body_model b ≡ body_trees.Body (items_of (map item_model (out-SubprogramBody b).items.items)) (place_label (out-SubprogramBody b).begin) (statements_model (out-SubprogramBody b).statements) (compound_end_model (out-SubprogramBody b).end)
body_layers b = ap body_model (sym (roll-out-SubprogramBody b)) ∙ body_new_model (out-SubprogramBody b).items (out-SubprogramBody b).begin (out-SubprogramBody b).statements (out-SubprogramBody b).end

pub handled_layers : (h : DeclaredStatements) → handled_model h ≡ handled_trees.Handled (items_of (map item_model (out-DeclaredStatements h).items.items)) (place_label (out-DeclaredStatements h).begin) (statements_model (out-DeclaredStatements h).statements) (named_end_model (out-DeclaredStatements h).end)
handled_layers h = ap handled_model (sym (roll-out-DeclaredStatements h)) ∙ handled_new_model (out-DeclaredStatements h).items (out-DeclaredStatements h).begin (out-DeclaredStatements h).statements (out-DeclaredStatements h).end
