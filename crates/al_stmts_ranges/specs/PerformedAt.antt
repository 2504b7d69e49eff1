-- Calls as statements at their places (ARM 6.4, 9.5.3, A.10.7), with the words of their temporaries. Their names are looked up by a table of
-- answers.
use Rattle.std.specs.Prelude.{ℕ, false, [], Result, Ok, Err}
use Rattle.al_base_fault.specs.Judging.{next, map_ok, unless}
use Rattle.al_base_fault.specs.declared.fault.Fault.{Fault}
use Rattle.al_overload_values.specs.TextsAt.{With, context_with_at}
use Rattle.al_overload_values.specs.Puts.{call_effect}
use Rattle.al_query.specs.Reads.{Table}
use Rattle.al_overload_slots.specs.Pieces.{pieces_after, pieces_numbered}
use Rattle.al_overload_slots.specs.Slots.{call_after, call_numbered}
use Rattle.al_tree_syntax.specs.ExpressionTrees.{ExpressionTree}
use Rattle.al_overload.specs.Terms.{TermTree}
use Rattle.al_view_typed.specs.StatementTrees.{StatementFormTree}
use Rattle.al_view_typed.specs.StatementTrees.StatementFormTree.{CallStatement, PutStatement}
use Rattle.al_overload_values.specs.Surroundings.{Surroundings}
use Rattle.al_overload_values.specs.Words.{Worded}
use Rattle.al_stmts.specs.Readings.{CallEffect, Called, Put}

-- what a statement does that is a call; a name alone is no other statement
abbrev pub call_effect_of : StatementFormTree → CallEffect
call_effect_of (CallStatement call) = Called call
call_effect_of (PutStatement pieces ends_line) = Put pieces ends_line
call_effect_of _ = Put [] false

-- the next word after what a call hands over or puts
abbrev pub call_effect_after : ℕ → CallEffect → ℕ
call_effect_after word (Called call) = call_after word call
call_effect_after word (Put pieces ends_line) = pieces_after word pieces

abbrev pub call_effect_numbered : ℕ → CallEffect → CallEffect
call_effect_numbered word (Called call) = Called (call_numbered word call)
call_effect_numbered word (Put pieces ends_line) = Put (pieces_numbered word pieces) ends_line

unfoldable pub call_effect_with_words : ℕ → Result CallEffect Fault → Worded CallEffect
call_effect_with_words word (Ok x) = (call_effect_after word x, Ok (call_effect_numbered word x))
call_effect_with_words word (Err f) = (word, Err f)

-- what a name alone does, without words: E401 and E404 of its names; else E402, E403, E405, E406, E604,
-- those in the prefixes of its attributes among them
abbrev pub call_effect_judged_at : Table → Surroundings → ExpressionTree → Result CallEffect Fault
call_effect_judged_at t s x =
    map_ok call_effect_of (next (context_with_at t s.place s.packages s.predefined s.own x) (λ (w : With TermTree). unless w.1 (call_effect s.predefined s.own w.0)))

abbrev pub call_effect_at : Table → Surroundings → ExpressionTree → ℕ → Worded CallEffect
call_effect_at t s x word = call_effect_with_words word (call_effect_judged_at t s x)
