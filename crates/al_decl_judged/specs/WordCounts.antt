-- Which words of frames and of a unit are taken.
use Rattle.std.specs.Prelude.{ℕ, ◌+◌, min}
use Rattle.al_decl_judged.specs.declared.words.Words.{Words}

-- the place after so many words; after the last place that there is there is none
abbrev pub place_after : ℕ → ℕ → ℕ
place_after place words = min (place + words) 4294967295

-- so many words of a frame are taken
abbrev pub after_frame : Words → ℕ → Words
after_frame taken words = record { frame = place_after taken.frame words; «data» = taken.data }

-- so many words of the unit are taken
abbrev pub after_data : Words → ℕ → Words
after_data taken words = record { frame = taken.frame; «data» = place_after taken.data words }
