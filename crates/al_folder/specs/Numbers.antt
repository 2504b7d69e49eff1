-- Numbers as they are written.
use Rattle.std.specs.Prelude.{ℕ, ◌&&◌, nat_lt, nat_le, List, length, Option, Some, None, if◌then◌else◌}
use Rattle.std.specs.Str.{all_ascii_digits}
use Rattle.std.specs.Str.Parse.{digits_value}

-- one or more digits that write a number from 1 to the most
abbrev pub number_of : ℕ → List ℕ → Option ℕ
number_of most word =
    let number = digits_value 10 word in
    if nat_lt 0 (length word) && all_ascii_digits word && nat_le 1 number && nat_le number most then Some number else None
