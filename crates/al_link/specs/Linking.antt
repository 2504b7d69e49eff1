-- The places of the symbols of objects, and the linked code.
use Rattle.std.specs.Prelude.{ℕ, ◌+◌, ◌%◌, ◌^◌, nat_le, if◌then◌else◌, List, [], ◌∷◌, ◌++◌, length, take, drop, fold}
use Rattle.std.specs.Int.{w32, from_be_bytes}
use Rattle.al_instr.specs.Codes.{word_bytes}
use Rattle.al_code_object.specs.declared.object.Address.{Address}
use Rattle.al_code_object.specs.declared.object.Relocation.{Relocation}
use Rattle.al_link.specs.declared.bases.Bases.{Bases}
use Rattle.al_link.specs.Bases.{base_of}
use Rattle.al_link.specs.Symbols.{Places, place_in, with_place}
use Rattle.al_link.specs.Units.{Located}

-- ---- the places of symbols

-- a symbol's place is the sum of what precedes its object and its own offset
abbrev pub with_address : Bases → Places → Address → Places
with_address b places d = with_place places d.symbol (base_of b d.symbol.kind + d.offset)

abbrev pub with_defines : Places → Located → Places
with_defines places l = fold (with_address l.before) places l.object.defines

-- the places of all symbols
abbrev pub places_of : List Located → Places
places_of ls = fold with_defines [] ls

-- ---- operands

-- the number in the four bytes at a place
unfoldable pub number_at : List ℕ → ℕ → ℕ
number_at code place = if nat_le (place + 4) (length code) then from_be_bytes w32 (take 4 (drop place code)) else 0

-- the bytes with another number there
unfoldable pub with_word : List ℕ → ℕ → ℕ → List ℕ
with_word code place n = if nat_le (place + 4) (length code) then take place code ++ (word_bytes n ++ drop (place + 4) code) else code

-- each operand counts from the place of its symbol. The offset is read in the object and never in the image, so linking an image again gives the
-- same code
abbrev pub patched : Places → List ℕ → ℕ → List ℕ → List Relocation → List ℕ
patched places from base code [] = code
patched places from base code (u ∷ us) =
    patched places from base (with_word code (base + u.place) ((number_at from u.place + place_in places u.symbol) % 2 ^ 32)) us

-- ---- code

-- an object after the code so far
abbrev pub with_object : Places → List ℕ → Located → List ℕ
with_object places code l = patched places l.object.code (length code) (code ++ l.object.code) l.object.uses

-- the objects after the starting code
abbrev pub linked : Places → List ℕ → List Located → List ℕ
linked places start ls = fold (with_object places) start ls
