-- What the program's performed statements are as plain data.
use Rattle.std.specs.Prelude.{map}
use Rattle.al_view_typed.specs.ExpressionViews.{call_model}
use Rattle.al_view_typed.specs.StatementViews.{piece_model}
use Rattle.al_stmts_text.specs.declared.analyzer.CallEffect.{CallEffect}
use Rattle.al_stmts_text.specs.declared.analyzer.CallEffect.TheVariants as call_effect
use Rattle.al_stmts.specs.Readings.{CallEffect as PerformedTree, Called, Put}

abbrev pub call_effect_model : CallEffect → PerformedTree
call_effect_model (call_effect.Called call) = Called (call_model call)
call_effect_model (call_effect.Put pieces ends_line) = Put (map piece_model pieces.items) ends_line
