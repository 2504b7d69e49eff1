-- Which sources of a library are as before.
use Rattle.std.specs.Prelude.{◌≡◌, ℕ, List, []}
use Rattle.std.specs.List.{Contains}
use Rattle.std.specs.Option.{option_map_or}
use Rattle.al_base.specs.Batch.{Finding}
use Rattle.al_unit_graph.specs.Headers.{Library}
use Rattle.al_unit_graph.specs.Library.{source_at}
use Rattle.al_engine.specs.declared.alike.Edited.{Edited}

-- the source of a file; no bytes if there is no such file
abbrev pub text_in : Library → List ℕ → List ℕ
text_in lib file = option_map_or (λ source. source.text) (source_at lib file) []

-- the source of a file may differ
abbrev pub may_differ : Edited → List ℕ → Type 0
may_differ edited file = Contains edited.files.items file

-- all other files have the same source as before
abbrev pub HaveTextsBut : Library → Library → Edited → Type 0
HaveTextsBut old new edited = (file : List ℕ) → (may_differ edited file → ⊥) → text_in old file ≡ text_in new file

-- a file breaks no rule as a unit, unless its source is as before
abbrev pub IsKeptFault : Edited → List ℕ × List Finding → Type 0
IsKeptFault edited found = may_differ edited found.0 → found.1 ≡ []
