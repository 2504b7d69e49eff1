-- The place of the spelling of a reserved word in a table of 256 (ARM 2.9).
use Rattle.std.specs.Prelude.{◌≡◌, ℕ, ◌+◌, ◌*◌, ◌-◌, ◌/◌, ◌%◌, List, length, slice_index}
use Rattle.al_base.specs.ReservedWords.{spelling}
use Rattle.al_base.specs.declared.reserved.ReservedWord.{ReservedWord}

-- the place of a spelling, by its first, middle and last byte
unfoldable pub place_of : List ℕ → ℕ
place_of text = (slice_index text 0 + 28 * slice_index text (length text / 2) + 38 * slice_index text (length text - 1)) % 256

-- no two reserved words have the same place
abbrev pub PlacesTellApart : Type 0
PlacesTellApart = (v w : ReservedWord) → place_of (spelling v) ≡ place_of (spelling w) → v ≡ w
