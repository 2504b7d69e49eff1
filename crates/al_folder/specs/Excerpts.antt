-- A line with a caret under a place in it.
use Rattle.std.specs.Prelude.{ℕ, Bool, true, false, ◌+◌, ◌-◌, ◌==◌, ◌++◌, ◌&&◌, ◌||◌, nat_lt, nat_le, min, List, [], length, take, drop, codes, if◌then◌else◌}
use Rattle.std.specs.List.{flat_map}
use Rattle.al_folder.specs.Messages.{shown_bytes}

-- how many bytes at the beginning of a line aren't shown, so that 80 are shown before the place: 0 if the whole line is shown,
-- and else at most so many that 120 are left
abbrev pub left_out : ℕ → ℕ → ℕ
left_out len place = if nat_le len 120 then 0 else min (place - 80) (len - 120)

-- a mark if bytes aren't shown
abbrev pub where_left : Bool → List ℕ → List ℕ
where_left true mark = mark
where_left false mark = []

-- what is shown of a line whose first `front` bytes aren't
abbrev pub shown : ℕ → List ℕ → List ℕ
shown front line = where_left (nat_lt 0 front) (codes "...") ++ shown_bytes (take 120 (drop front line)) ++ where_left (nat_lt 120 (length (drop front line))) (codes "...")

-- blanks as wide as a byte is when it is shown: a tab stays, so that what is below it is aligned, however wide tabs are; a
-- control character is shown as two characters; and the bytes of a character after its first have no width
abbrev pub blanks_for : ℕ → List ℕ
blanks_for b = if b == 9 then codes "\t" else if nat_lt b 32 || b == 127 then codes "  " else if nat_le 128 b && nat_lt b 192 then [] else codes " "

-- the caret below the byte at a place of the line
abbrev pub caret : ℕ → ℕ → List ℕ → List ℕ
caret front place line = where_left (nat_lt 0 front) (codes "   ") ++ flat_map blanks_for (take (place - front) (drop front line)) ++ codes "^"

-- a line, at most 120 bytes of it, and the caret below the place
abbrev pub marked : ℕ → List ℕ → List ℕ
marked place line = let front = left_out (length line) place in shown front line ++ codes "\n" ++ caret front place line ++ codes "\n"

-- what is shown of a place in a line: nothing if the line has no byte, as at the end of a text
abbrev pub excerpt : ℕ → List ℕ → List ℕ
excerpt place line = if length line == 0 then [] else marked place line
