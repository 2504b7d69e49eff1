-- What the program's values are as plain data.
use Rattle.std.specs.Prelude.{map}
use Rattle.al_view_typed.specs.ExpressionViews.{call_model}
use Rattle.al_view_typed.specs.StatementTrees.{PieceTree, StatementFormTree}
use Rattle.al_view_typed.specs.StatementTrees.StatementFormTree.{CallStatement, PutStatement}
use Rattle.al_view_typed.specs.StatementViews.{piece_model}
use Rattle.al_overload_nodes.specs.Gathering.{Parts}
use Rattle.al_overload_values.specs.declared.perform.CallEffect.{CallEffect}
use Rattle.al_overload_values.specs.declared.perform.CallEffect.TheVariants as call_effect
use Rattle.al_overload_values.specs.declared.put_text.Pieces.{Pieces}

abbrev pub pieces_model : Pieces → Parts PieceTree
pieces_model p = record { failure = p.failure; fault = p.fault; items = map piece_model p.items.items }

abbrev pub call_effect_model : CallEffect → StatementFormTree
call_effect_model (call_effect.Call call) = CallStatement (call_model call)
call_effect_model (call_effect.Put pieces ends_line) = PutStatement (map piece_model pieces.items) ends_line
