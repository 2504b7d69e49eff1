-- How the values of composite types lie in memory.
use Rattle.std.specs.Prelude.{ℕ, ◌+◌, ◌*◌, ◌-ℤ◌, unsigned_abs, nat_le, sum, List, [], ◌∷◌, Option, Some, None, if◌then◌else◌}
use Rattle.al_view.specs.declared.types.Bounds.{Bounds}
use Rattle.al_view.specs.declared.types.Layout.{Layout}
use Rattle.al_view.specs.declared.types.Layout.TheVariants.{Array, Record}
use Rattle.al_decl_judged.specs.TypeSubtypes.{is_null}

-- how many values a range has
abbrev pub values_in : Bounds → ℕ
values_in range = if is_null range then 0 else unsigned_abs (range.high -ℤ range.low) + 1

-- so many components of so many words each
abbrev pub array_layout : ℕ → ℕ → Layout
array_layout values component = Array component (values * component)

-- each component begins where the one before it ends, the first one here
abbrev pub offsets_from : ℕ → List ℕ → List ℕ
offsets_from place [] = []
offsets_from place (w ∷ ws) = place ∷ offsets_from (place + w) ws

-- components of so many words, in order
abbrev pub record_layout : List ℕ → Layout
record_layout words = Record (offsets_from 0 words) (sum words)

-- so many words, if a value may have so many
abbrev pub limited : ℕ → Option ℕ
limited words = if nat_le words 4096 then Some words else None
