-- Places of diagnostics, as ranges of a client.
use Rattle.std.specs.Prelude.{ℕ, ◌+◌, ◌-◌, ◌==◌, ◌&&◌, Bool, List, drop, max, slice_index, if◌then◌else◌}
use Rattle.std.specs.List.{prefix_len}
use Rattle.al_base.specs.Identifiers.{is_word_byte}
use Rattle.al_base.specs.declared.place.Place.{Place}
use Rattle.al_lsp.specs.declared.position.Counting.{Counting}
use Rattle.al_lsp.specs.declared.position.Counting.TheVariants.{Lexer}
use Rattle.al_lsp.specs.declared.edit.Range.{Range}
use Rattle.al_lsp.specs.Positions.{offset_at, position_at}

-- the mark EF BB BF in front is of no line
abbrev pub mark_len : List ℕ → ℕ
mark_len text = if slice_index text 0 == 239 && slice_index text 1 == 187 && slice_index text 2 == 191 then 3 else 0

-- how many bytes are before a place, as the lexer counts its line and its column, both from 1
abbrev pub place_offset : List ℕ → Place → ℕ
place_offset text place = mark_len text + offset_at Lexer (drop (mark_len text) text) (record { line = place.line - 1; column = place.col - 1 })

-- how many bytes a word has, one at least
abbrev pub word_len : List ℕ → ℕ
word_len text = max 1 (prefix_len is_word_byte text)

-- the range of the word at a place
abbrev pub range_from : Counting → List ℕ → ℕ → Range
range_from counting text from = record { start = position_at counting text from; end = position_at counting text (from + word_len (drop from text)) }

abbrev pub range_at : Counting → List ℕ → Place → Range
range_at counting text place = range_from counting text (place_offset text place)
