-- String expressions, whose operands wait in a list until they are read.
use Rattle.std.specs.Prelude.{ℕ, zero, suc, ◌+◌, ◌<◌, List, [], ◌∷◌, None, Option, ⊤}
use Rattle.al_base_fault.specs.Judging.{map_ok}
use Rattle.al_overload.specs.declared.everywhere.Predefined.{Predefined}
use Rattle.al_overload_nodes.specs.Gathering.{Parts, with_part}
use Rattle.al_overload_values.specs.Puts.{text_read}
use Rattle.al_overload_values.specs.declared.put_text.Step.{Step}
use Rattle.al_overload_values.specs.declared.put_text.Step.TheVariants as steps
use Rattle.al_overload.specs.Terms.{TermTree}
use Rattle.al_overload.specs.TermViews.{term_model}
use Rattle.al_overload.specs.declared.heads_term.Term.{Term, size-Term}
use Rattle.al_view.specs.declared.symbol.Symbol.{Symbol}
use Rattle.al_view_typed.specs.StatementTrees.{PieceTree}
use Rattle.al_view_typed.specs.StatementViews.{piece_model}

-- all that waits, after the pieces that were read: the last of the list comes next
abbrev pub all_read : Predefined → Option Symbol → List TermTree → Parts PieceTree → Parts PieceTree
all_read p own [] pieces = pieces
all_read p own (x ∷ xs) pieces = text_read p own x (all_read p own xs pieces)

-- what a step makes of a term: both operands of `&`, what is in parentheses, or a piece
abbrev pub stepped : Predefined → Option Symbol → Step → Parts PieceTree → Parts PieceTree
stepped p own (steps.Both left right) pieces = text_read p own (term_model right.now) (text_read p own (term_model left.now) pieces)
stepped p own (steps.Inside inner) pieces = text_read p own (term_model inner.now) pieces
stepped p own (steps.Found piece) pieces = with_part pieces None (map_ok piece_model piece)

-- what is left to read is less deep than the whole
abbrev pub IsBelow : Term → Step → Type 0
IsBelow term (steps.Both left right) = (size-Term left.now < size-Term term) × (size-Term right.now < size-Term term)
IsBelow term (steps.Inside inner) = size-Term inner.now < size-Term term
IsBelow term (steps.Found piece) = ⊤

-- ---- that the loop over all that waits ends

-- how many terms one of this depth has at most, if each has two parts at most
abbrev pub most : ℕ → ℕ
most zero = 1
most (suc depth) = 1 + (most depth + most depth)

abbrev pub room : Term → ℕ
room term = most (size-Term term)
