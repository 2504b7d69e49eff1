-- What was judged, with the words of the frame that its temporaries take from a word on. Nobody sees the words of what is faulty.
use Rattle.std.specs.Prelude.{ℕ, Result, Ok, Err}
use Rattle.al_base_fault.specs.declared.fault.Fault.{Fault}
use Rattle.al_overload_nodes.specs.Ranges.{FoundTree}
use Rattle.al_overload_slots.specs.Slots.{after, numbered}
use Rattle.al_view_typed.specs.ExpressionTrees.{TypedTree}

-- the next word, and what was judged
abbrev pub Worded : Type 0 → Type 0
Worded A = ℕ × Result A Fault

unfoldable pub with_words : ℕ → Result TypedTree Fault → Worded TypedTree
with_words word (Ok x) = (after word x, Ok (numbered word x))
with_words word (Err f) = (word, Err f)

unfoldable pub found_with_words : ℕ → Result FoundTree Fault → Worded FoundTree
found_with_words word (Ok x) = (after word x.value, Ok (record { value = numbered word x.value; found = x.found }))
found_with_words word (Err f) = (word, Err f)
