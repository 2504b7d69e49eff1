-- Names of sources and of the main unit.
use Rattle.std.specs.Prelude.{ℕ, Bool, ◌||◌, ◌-◌, ◌==◌, List, length, take, drop, map, codes, Option, Some, None, if◌then◌else◌}
use Rattle.std.specs.Char.{to_ascii_lowercase}
use Rattle.std.specs.Str.{bytes_eq}
use Rattle.al_base.specs.Identifiers.{is_unit_name}

-- the last four bytes; all if there are fewer
abbrev pub ending : List ℕ → List ℕ
ending name = drop (length name - 4) name

abbrev pub is_body_file : List ℕ → Bool
is_body_file name = bytes_eq (ending name) (codes ".adb")

-- whether a name ends as that of a source does
abbrev pub has_source_ending : List ℕ → Bool
has_source_ending name = bytes_eq (ending name) (codes ".ads") || is_body_file name

-- a hyphen or a tilde in a file's name is a dot in its unit's name
abbrev pub dot_for_hyphen : ℕ → ℕ
dot_for_hyphen b = if b == 45 || b == 126 then 46 else b

-- the name that a word gives: if it is the name of a body's file, that of its unit, and else the word itself
abbrev pub told_name : List ℕ → List ℕ
told_name word = if is_body_file word then map dot_for_hyphen (take (length word - 4) word) else word

-- the name in lower case, if it is the name of a unit
abbrev pub unit_of : List ℕ → Option (List ℕ)
unit_of word = if is_unit_name (told_name word) then Some (map to_ascii_lowercase (told_name word)) else None
