-- The lines of a source, as the lexer counts them.
use Rattle.std.specs.Prelude.{ℕ, zero, suc, ◌+◌, ◌-◌, ◌==◌, ◌&&◌, Bool, nat_le, List, length, take, drop, position, unwrap_or, slice_index, if◌then◌else◌}

-- LF, VT, FF and CR each end a line (ARM 2.2(2))
abbrev pub is_line_end : ℕ → Bool
is_line_end b = nat_le 10 b && nat_le b 13

-- the end of the first line: the place of the first byte that ends one, or the end of the source
abbrev pub end_of : List ℕ → ℕ
end_of text = unwrap_or (position is_line_end text) (length text)

-- the bytes without the end of a line at their beginning: CR and LF together are one end
abbrev pub after_end : List ℕ → List ℕ
after_end bytes = if slice_index bytes 0 == 13 && slice_index bytes 1 == 10 then drop 2 bytes else drop 1 bytes

-- the source without its first line
abbrev pub after_line : List ℕ → List ℕ
after_line text = after_end (drop (end_of text) text)

-- the source without its first lines
abbrev pub after_lines : ℕ → List ℕ → List ℕ
after_lines zero text = text
after_lines (suc n) text = after_line (after_lines n text)

abbrev pub first_line : List ℕ → List ℕ
first_line text = take (end_of text) text

-- the byte order mark EF BB BF at the beginning belongs to no line
abbrev pub without_mark : List ℕ → List ℕ
without_mark text = if slice_index text 0 == 239 && slice_index text 1 == 187 && slice_index text 2 == 191 then drop 3 text else text

-- the line of a number, without its end; lines are counted from 1, and after the last one the result is empty
abbrev pub line_of : ℕ → List ℕ → List ℕ
line_of number text = first_line (after_lines (number - 1) (without_mark text))
