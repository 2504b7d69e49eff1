-- Identifiers and the names of units (ARM 2.3, 10.1.1).
use Rattle.std.specs.Prelude.{ℕ, Bool, true, false, ◌&&◌, ◌||◌, ◌==◌, not, nat_le, List, [], ◌∷◌, length, map}
use Rattle.std.specs.Char.{to_ascii_lowercase, is_ascii_alphabetic, is_ascii_alphanumeric}
use Rattle.std.specs.Option.{is_none}
use Rattle.std.specs.List.{list_all, list_any, slice_split}
use Rattle.al_base.specs.ReservedWords.{reserved_at}

-- a letter, a digit or `_`
abbrev pub is_word_byte : ℕ → Bool
is_word_byte b = is_ascii_alphanumeric b || b == 95

abbrev pub is_empty : List ℕ → Bool
is_empty [] = true
is_empty (b ∷ bs) = false

-- two `_` together, or one at either end: a part between them is empty
abbrev pub has_bad_underscore : List ℕ → Bool
has_bad_underscore word = list_any is_empty (slice_split (λ b. b == 95) word)

abbrev pub begins_with_letter : List ℕ → Bool
begins_with_letter [] = false
begins_with_letter (b ∷ bs) = is_ascii_alphabetic b

-- a letter, and then letters, digits and single `_`, in at most 200 bytes
abbrev pub has_identifier_shape : List ℕ → Bool
has_identifier_shape word = nat_le (length word) 200 && begins_with_letter word && list_all is_word_byte word && not (has_bad_underscore word)

-- an identifier: a well-formed word that isn't reserved
unfoldable pub is_identifier : List ℕ → Bool
is_identifier word = has_identifier_shape word && is_none (reserved_at (map to_ascii_lowercase word))

-- identifiers with single dots between them
abbrev pub is_unit_name : List ℕ → Bool
is_unit_name word = list_all is_identifier (slice_split (λ b. b == 46) word)
