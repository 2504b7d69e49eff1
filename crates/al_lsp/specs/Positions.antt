-- Lines and columns of a text, both from 0.
use Rattle.std.specs.Prelude.{ℕ, zero, suc, ◌+◌, ◌-◌, ◌^◌, ◌==◌, ◌&&◌, ◌||◌, Bool, true, false, not, nat_le, nat_lt, min, List, length, take, fold, if◌then◌else◌}
use Rattle.al_lsp.specs.declared.position.Counting.{Counting}
use Rattle.al_lsp.specs.declared.position.Counting.TheVariants.{Utf8, Utf16, Lexer}
use Rattle.al_lsp.specs.declared.position.Position.{Position}
use Rattle.al_lsp.specs.declared.position.Spot.{Spot}

-- no number passes the largest of 64 bits
abbrev pub plus : ℕ → ℕ → ℕ
plus n more = min (n + more) (2 ^ 64 - 1)

-- in UTF-8 the first byte of a character counts for all of it: those from F0 on begin a pair of UTF-16, and 80 to BF begin none
abbrev pub pair_units : ℕ → ℕ
pair_units byte = if nat_le 128 byte && nat_lt byte 192 then 0 else (if nat_le 240 byte then 2 else 1)

-- how many columns a byte has
abbrev pub columns : Counting → ℕ → ℕ
columns Utf8 byte = 1
columns Utf16 byte = pair_units byte
columns Lexer byte = 1

-- LF and CR each end a line; for the lexer VT and FF do too (ARM 2.2(2))
abbrev pub ends_line : Counting → ℕ → Bool
ends_line Utf8 byte = byte == 10 || byte == 13
ends_line Utf16 byte = byte == 10 || byte == 13
ends_line Lexer byte = nat_le 10 byte && nat_le byte 13

-- before the first byte
abbrev pub start : Spot
start = record { line = 0; column = 0; is_after_cr = false }

abbrev pub next_line : Spot → ℕ → Spot
next_line spot byte = record { line = plus spot.line 1; column = 0; is_after_cr = byte == 13 }

abbrev pub same_line : Counting → Spot → ℕ → Spot
same_line counting spot byte = record { line = spot.line; column = plus spot.column (columns counting byte); is_after_cr = false }

-- after one more byte: an LF after a CR belongs to the same end of a line
abbrev pub after_byte : Counting → Spot → ℕ → Spot
after_byte counting spot byte = if spot.is_after_cr && byte == 10 then record spot { is_after_cr = false } else (if ends_line counting byte then next_line spot byte else same_line counting spot byte)

-- after all bytes
abbrev pub spot_after : Counting → List ℕ → Spot
spot_after counting text = fold (after_byte counting) start text

abbrev pub position_in : Spot → Position
position_in spot = record { line = spot.line; column = spot.column }

-- the position before which so many bytes are
abbrev pub position_at : Counting → List ℕ → ℕ → Position
position_at counting text offset = position_in (spot_after counting (take offset text))

-- the one isn't after the other
abbrev pub is_within : Position → Position → Bool
is_within a b = nat_lt a.line b.line || (a.line == b.line && nat_le a.column b.column)

-- the largest number up to this one for which the test holds; 0 where there is none
abbrev pub last_where : (ℕ → Bool) → ℕ → ℕ
last_where test zero = 0
last_where test (suc n) = if test (suc n) then suc n else last_where test n

-- how many bytes are before a position: as many as there can be, so that what is past the end of a line is that end, and what is past the
-- last line is the end of the text
abbrev pub offset_at : Counting → List ℕ → Position → ℕ
offset_at counting text position = last_where (λ offset. is_within (position_at counting text offset) position) (length text)
