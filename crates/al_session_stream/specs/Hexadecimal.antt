-- Bytes as hexadecimal digits, 32 bytes on a line.
use Rattle.std.specs.Prelude.{ℕ, ◌/◌, ◌%◌, List, [], ◌∷◌, ◌++◌, length, slice_index, codes}
use Rattle.std.specs.List.{flat_map}
use Rattle.std.specs.Simd.{first_chunks}
use Rattle.std.specs.Slice.Iter.{chunk_count}

abbrev pub hex_digits : List ℕ
hex_digits = codes "0123456789abcdef"

-- the two digits of a byte, the high four bits first
abbrev pub hex_of : ℕ → List ℕ
hex_of byte = slice_index hex_digits (byte / 16) ∷ slice_index hex_digits (byte % 16) ∷ []

-- the digits of these bytes, and a line end
unfoldable pub hex_line : List ℕ → List ℕ
hex_line bytes = flat_map hex_of bytes ++ codes "\n"

-- a line for each 32 bytes, the last of which may be shorter
unfoldable pub hex_lines : List ℕ → List ℕ
hex_lines bytes = flat_map hex_line (first_chunks 32 (chunk_count (length bytes) 32) bytes)
