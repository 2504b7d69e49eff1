-- The number of instructions between two ticks, as it is written.
use Rattle.std.specs.Prelude.{ℕ, ◌&&◌, nat_lt, nat_le, List, length, Option, Some, None, if◌then◌else◌}
use Rattle.std.specs.Str.{all_ascii_digits}
use Rattle.std.specs.Str.Parse.{digits_value}

-- one or more digits, which write a number of 1 to 10000
abbrev pub tick_of : List ℕ → Option ℕ
tick_of word =
    let number = digits_value 10 word in
    if nat_lt 0 (length word) && all_ascii_digits word && nat_le 1 number && nat_le number 10000 then Some number else None
