-- The code of loops by their schemes (ARM 5.5, 5.7).
use Rattle.std.specs.Prelude.{ℕ, pos, Bool, true, false, List, [], ◌∷◌, ◌++◌, Option, Some, None}
use Rattle.al_view.specs.declared.types.Bounds.{Bounds}
use Rattle.al_instr.specs.declared.numbers.Plain.{Plain as PlainOne}
use Rattle.al_instr.specs.declared.numbers.Plain.TheVariants as plain
use Rattle.al_instr.specs.declared.numbers.Sized.TheVariants as sized
use Rattle.al_view_typed.specs.ExpressionTrees.{TypedTree}
use Rattle.al_view_typed.specs.StatementTrees.{SchemeTree}
use Rattle.al_view_typed.specs.StatementTrees.SchemeTree.{ForeverScheme, WhileScheme, ForScheme}
use Rattle.al_code.specs.declared.piece.JumpCondition.TheVariants as when
use Rattle.al_code.specs.declared.piece.Target.TheVariants as target
use Rattle.al_code.specs.Pieces.{Piece, repeated}
use Rattle.al_code.specs.Pieces.Piece.{Leaving}
use Rattle.al_code.specs.ExprPieces.{check_code, guarded, load_slot, number, of_size, one, store_slot}
use Rattle.al_code.specs.Templates.{value_of}

-- the exit from the loop that is so many loops further out
abbrev pub exit_code : ℕ → List Piece
exit_code loops = Leaving when.Always (target.Loop loops) ∷ []

-- the exit from the innermost loop if the word on top is 0
abbrev pub while_code : List Piece
while_code = Leaving when.IfZero (target.Loop 0) ∷ []

abbrev pub leave_code : ℕ → ℕ → Option TypedTree → List Piece
leave_code depth loops None = exit_code loops
leave_code depth loops (Some condition) = value_of depth condition ++ guarded (exit_code loops)

-- two words of the frame are compared
unfoldable pub compare_code : ℕ → ℕ → PlainOne → List Piece
compare_code left right operator = load_slot left ++ load_slot right ++ one operator

-- the words that keep the low and the high bound, the parameter's and the last value's, which begin as the two bounds
abbrev pub low_word : Bool → ℕ → ℕ → ℕ
low_word true parameter last = last
low_word false parameter last = parameter

abbrev pub high_word : Bool → ℕ → ℕ → ℕ
high_word true parameter last = parameter
high_word false parameter last = last

-- the bounds, and the exit if the range is null
unfoldable pub bounds_code : ℕ → Bool → TypedTree → TypedTree → ℕ → ℕ → List Piece
bounds_code depth is_reverse low high parameter last =
    value_of depth low ++ store_slot (low_word is_reverse parameter last) ++ value_of depth high ++ store_slot (high_word is_reverse parameter last)
    ++ compare_code (low_word is_reverse parameter last) (high_word is_reverse parameter last) plain.AtMost ++ while_code

-- a bound of a loop that has a mark is checked against the mark's range
unfoldable pub mark_check : Option Bounds → ℕ → List Piece
mark_check bounds word = load_slot word ++ check_code bounds ++ of_size sized.Drop 1

unfoldable pub marked_code : Option Bounds → ℕ → ℕ → List Piece
marked_code None parameter last = []
marked_code (Some bounds) parameter last = mark_check (Some bounds) parameter ++ mark_check (Some bounds) last

abbrev pub step_operator : Bool → PlainOne
step_operator true = plain.Subtract
step_operator false = plain.Add

-- the exit if the parameter has its last value, or else its next value
unfoldable pub turn_code : Bool → ℕ → ℕ → List Piece
turn_code is_reverse parameter last =
    compare_code parameter last plain.Equal ++ guarded (exit_code 0) ++ load_slot parameter ++ number (pos 1) ++ one (step_operator is_reverse)
    ++ store_slot parameter

-- a loop around statements with this code
abbrev pub round_code : ℕ → SchemeTree → List Piece → List Piece
round_code depth ForeverScheme p = repeated p
round_code depth (WhileScheme condition) p = repeated (value_of depth condition ++ while_code ++ p)
round_code depth (ForScheme is_reverse low high mark parameter last) p =
    bounds_code depth is_reverse low high parameter last ++ marked_code mark parameter last ++ repeated (p ++ turn_code is_reverse parameter last)
