-- Kinds of bytes.
use Rattle.std.specs.Prelude.{ℕ, ◌==◌, Bool, not, ◌&&◌, ◌||◌, nat_le}

-- LF, VT, FF and CR each end a line (ARM 2.2(2))
abbrev pub is_line_end : ℕ → Bool
is_line_end b = nat_le 10 b && nat_le b 13

abbrev pub is_inside_line : ℕ → Bool
is_inside_line b = not (is_line_end b)

-- a space or a tab
abbrev pub is_blank : ℕ → Bool
is_blank b = b == 32 || b == 9

-- what may be in a string
abbrev pub is_printable : ℕ → Bool
is_printable b = nat_le 32 b && nat_le b 126
