-- The head of a frame: fields, each in a line that ends in CR LF, and then an empty line.
use Rattle.std.specs.Prelude.{ℕ, ◌+◌, ◌*◌, ◌-◌, ◌==◌, ◌&&◌, Bool, true, nat_le, List, [], ◌∷◌, length, take, drop, codes, Option, Some, None, if◌then◌else◌, unwrap_or}
use Rattle.std.specs.Option.{is_none}
use Rattle.std.specs.Char.{is_ascii_digit}
use Rattle.std.specs.Str.{bytes_eq, str_eq_ignore_ascii_case}

-- CR LF CR LF
abbrev pub head_end : List ℕ
head_end = 13 ∷ 10 ∷ 13 ∷ 10 ∷ []

abbrev pub ends_head : List ℕ → Bool
ends_head bytes = bytes_eq (drop (length bytes - 4) bytes) head_end

-- the name of the field, in any case of letters
abbrev pub is_name : List ℕ → Bool
is_name bytes = str_eq_ignore_ascii_case bytes (codes "content-length:")

-- what follows the name
abbrev pub field_value : List ℕ → Option (List ℕ)
field_value bytes = if nat_le 15 (length bytes) && is_name (take 15 bytes) then Some (drop 15 bytes) else None

-- the number with one digit more
abbrev pub more_digits : Option ℕ → ℕ → ℕ
more_digits so_far byte = unwrap_or so_far 0 * 10 + (byte - 48)

-- spaces, then digits up to a CR, of a number that isn't larger than the most
abbrev pub number_in : ℕ → Option ℕ → List ℕ → Option ℕ
number_in most so_far [] = None
number_in most so_far (b ∷ bs) =
    if b == 13 then so_far
    else (if b == 32 && is_none so_far then number_in most so_far bs
    else (if is_ascii_digit b && nat_le (more_digits so_far b) most then number_in most (Some (more_digits so_far b)) bs
    else None))

abbrev pub told_at : ℕ → Option (List ℕ) → Option ℕ → Option ℕ
told_at most None later = later
told_at most (Some value) later = number_in most None value

-- the number of the first field of that name, where the bytes begin a line or don't
abbrev pub told_from : ℕ → Bool → List ℕ → Option ℕ
told_from most at_start [] = None
told_from most at_start (b ∷ bs) = if at_start then told_at most (field_value (b ∷ bs)) (told_from most (b == 10) bs) else told_from most (b == 10) bs

-- how many bytes a head says that the body has
abbrev pub length_told : ℕ → List ℕ → Option ℕ
length_told most head = told_from most true head
