-- Edits of a text.
use Rattle.std.specs.Prelude.{ℕ, List, ◌++◌, take, drop, max}
use Rattle.al_lsp.specs.declared.position.Counting.{Counting}
use Rattle.al_lsp.specs.declared.edit.Range.{Range}
use Rattle.al_lsp.specs.Positions.{offset_at}

-- other bytes in place of those between two offsets
abbrev pub replaced : List ℕ → ℕ → ℕ → List ℕ → List ℕ
replaced text from to bytes = take from text ++ bytes ++ drop to text

-- where a range ends: not before its start
abbrev pub end_at : Counting → List ℕ → Range → ℕ
end_at counting text range = max (offset_at counting text range.start) (offset_at counting text range.end)

-- the text after a change: other bytes in the range, and all else as it was
abbrev pub edited : Counting → List ℕ → Range → List ℕ → List ℕ
edited counting text range bytes = replaced text (offset_at counting text range.start) (end_at counting text range) bytes
