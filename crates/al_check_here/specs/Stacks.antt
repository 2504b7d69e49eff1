-- A stack of what encloses a place, the innermost item last.
use Rattle.std.specs.Prelude.{◌-◌, ◌==◌, List, Bool, Option, length, slice_get, take}

abbrev pub innermost : {A : Type 0} → List A → Option A
innermost xs = slice_get xs (length xs - 1)

abbrev pub without_innermost : {A : Type 0} → List A → List A
without_innermost xs = take (length xs - 1) xs

abbrev pub is_bare : {A : Type 0} → List A → Bool
is_bare xs = length xs == 0
