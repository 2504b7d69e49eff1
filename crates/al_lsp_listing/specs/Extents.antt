-- Where declarations are in a text.
use Rattle.std.specs.Prelude.{◌≡◌, ℕ, ◌-◌, List, length, take, drop, min}
use Rattle.std.specs.List.{All}
use Rattle.al_lsp.specs.Positions.{position_at, spot_after}
use Rattle.al_lsp.specs.declared.edit.Range.{Range}
use Rattle.al_lsp.specs.declared.position.Counting.{Counting}
use Rattle.al_lsp_listing.specs.declared.extents.Mark.{Mark}
use Rattle.al_lsp_outline.specs.declared.range.Extent.{Extent}

-- the bytes of an extent, as far as the text has them
abbrev pub bytes_of : List ℕ → Extent → List ℕ
bytes_of text e = let to = min e.to (length text) in let from = min e.from to in take (to - from) (drop from text)

abbrev pub range_of : Counting → List ℕ → Extent → Range
range_of counting text e = record { start = position_at counting text e.from; end = position_at counting text e.to }

-- lines and columns are counted so behind so many bytes
abbrev pub IsMark : Counting → List ℕ → Mark → Type 0
IsMark counting text m = m.spot ≡ spot_after counting (take m.offset text)

abbrev pub AreMarks : Counting → List ℕ → List Mark → Type 0
AreMarks counting text ms = All (IsMark counting text) ms
