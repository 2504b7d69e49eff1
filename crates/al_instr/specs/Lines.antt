-- Which line of its unit's source code is of.
use Rattle.std.specs.Prelude.{ℕ, ◌+◌, ◌<◌, nat_le, nat_lt, Bool, true, ◌&&◌, IsTrue, List, [], ◌∷◌, map, All, Option, Some, if◌then◌else◌}
use Rattle.al_instr.specs.declared.lines.LineEntry.{LineEntry}

-- places rise from the lowest on and are below the end of the code, and lines are at least 1
abbrev pub rise : ℕ → ℕ → List LineEntry → Bool
rise lowest end [] = true
rise lowest end (e ∷ es) = (nat_le lowest e.place && nat_lt e.place end && nat_le 1 e.line) && rise (e.place + 1) end es

-- both numbers fit in words
abbrev pub IsLineEntry : LineEntry → Type 0
IsLineEntry e = (e.place < 0x1_0000_0000) × (e.line < 0x1_0000_0000)

-- the lines of a code of this length
pub record AreLines (end : ℕ) (es : List LineEntry) : Type 0 where
  pub rise_in : IsTrue (rise 0 end es)
  pub fit : All IsLineEntry es

-- an instruction at a place is of the line of the last entry whose place isn't after it, or else of that before all
abbrev pub line_at : List LineEntry → ℕ → Option ℕ → Option ℕ
line_at [] place before = before
line_at (e ∷ es) place before = line_at es place (if nat_le e.place place then Some e.line else before)

-- ---- which of the marks in code stay: those after which a byte comes before the next one that stays

abbrev pub first_place : ℕ → List LineEntry → ℕ
first_place end [] = end
first_place end (e ∷ es) = e.place

abbrev pub with_mark : ℕ → LineEntry → List LineEntry → List LineEntry
with_mark end m es = if nat_lt m.place (first_place end es) then m ∷ es else es

abbrev pub line_table : ℕ → List LineEntry → List LineEntry
line_table end [] = []
line_table end (m ∷ ms) = with_mark end m (line_table end ms)

-- the lines of an object whose code begins at a place of the image's
abbrev pub shifted : ℕ → List LineEntry → List LineEntry
shifted start es = map (λ e. record { place = start + e.place; line = e.line }) es
