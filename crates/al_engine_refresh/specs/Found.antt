-- The diagnostics that a build gives for the files of a library.
use Rattle.std.specs.Prelude.{ℕ, ◌≡◌, List, [], ◌∷◌, map, Option, Some, None}
use Rattle.std.specs.List.{Contains, flat_map}
use Rattle.std.specs.Map.{keys_of}
use Rattle.std.specs.Option.{option_map_or}
use Rattle.al_base.specs.Batch.{Finding}
use Rattle.al_base.specs.declared.diagnostic.Diagnostic.{Diagnostic}
use Rattle.al_base.specs.declared.unit_key.UnitKey.{UnitKey}
use Rattle.al_unit_graph.specs.Headers.{Contents, Headed, Unread, Library, key_of_unit}
use Rattle.al_unit_graph.specs.Library.{source_at}
use Rattle.al_unit_faults.specs.GraphFaults.{file_faults, or_else}
use Rattle.al_unit_faults.specs.Orders.{ascending}
use Rattle.al_unit_faults.specs.Spots.{finding_at, spot_of}
use Rattle.al_query_outcome.specs.Equations.{unit_named}
use Rattle.al_query_outcome.specs.Results.{Outcome, Faulty, Sound}

-- the diagnostics of a check for a file, by place and number, without duplicates
abbrev pub checked_findings : List ℕ → List Diagnostic → List Finding
checked_findings file faults = ascending (map (λ d. finding_at file (spot_of d)) faults)

-- A unit that breaks no rule of the graph has no outcome if it isn't reached: it depends on a unit that breaks a rule or has an error (ARM
-- 10.1.1(26)).
abbrev pub outcome_findings : List ℕ → Option Outcome → List Finding
outcome_findings file None = finding_at file (1, 1, 208) ∷ []
outcome_findings file (Some (Faulty faults)) = checked_findings file faults
outcome_findings file (Some (Sound interface tree)) = []

-- a source that is no compilation unit has its first lexical error, or else its syntax error
abbrev pub contents_findings : (UnitKey → Option Outcome) → List ℕ → Contents → List Finding
contents_findings f file (Headed h) = outcome_findings file (f (unit_named (key_of_unit h)))
contents_findings f file (Unread place code) = finding_at file (place.line, place.col, code) ∷ []

-- the errors of a file's unit among the other units (ARM 10.1), or else those of its source and its outcome
abbrev pub told_of : Library → (UnitKey → Option Outcome) → List ℕ → List Finding → List Finding
told_of lib f file faults = or_else faults (option_map_or (λ source. contents_findings f file source.contents) (source_at lib file) [])

-- those of a file with its errors among the other units
abbrev pub told_in : Library → (UnitKey → Option Outcome) → List ℕ × List Finding → List Finding
told_in lib f file = told_of lib f file.0 file.1

abbrev pub file_findings : Library → (UnitKey → Option Outcome) → List ℕ → List Finding
file_findings lib f file = told_of lib f file (file_faults lib file)

-- all diagnostics of the files of a library, whose units have these outcomes: by file, place and number
unfoldable pub findings_of : Library → (UnitKey → Option Outcome) → List Finding
findings_of lib f = flat_map (file_findings lib f) (keys_of lib)

-- no file but this one has any
abbrev pub AreToldAlone : Library → (UnitKey → Option Outcome) → List ℕ → Type 0
AreToldAlone lib f one = (file : List ℕ) → Contains (keys_of lib) file → (file ≡ one → ⊥) → file_findings lib f file ≡ []
