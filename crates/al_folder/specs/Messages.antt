-- How bytes of names and sources are printed.
use Rattle.std.specs.Prelude.{ℕ, ◌+◌, ◌==◌, ◌++◌, nat_lt, List, [], ◌∷◌, codes, if◌then◌else◌}
use Rattle.std.specs.List.{flat_map}

-- a control character as a circumflex and the letter of its key, so that none reaches a terminal; a tab is unchanged
abbrev pub shown_byte : ℕ → List ℕ
shown_byte b = if b == 9 then b ∷ [] else if nat_lt b 32 then 94 ∷ (b + 64) ∷ [] else if b == 127 then codes "^?" else b ∷ []

abbrev pub shown_bytes : List ℕ → List ℕ
shown_bytes bytes = flat_map shown_byte bytes

-- the pieces, as one line
abbrev pub message_text : List (List ℕ) → List ℕ
message_text pieces = flat_map shown_bytes pieces ++ codes "\n"
