-- Which errors are found if only some units have other outcomes than before.
use Rattle.std.specs.Prelude.{◌≡◌, true, false, List, [], Option}
use Rattle.al_base.specs.declared.unit_key.UnitKey.{UnitKey}
use Rattle.al_unit_graph.specs.Headers.{Library}
use Rattle.al_query.specs.Known.{has_unit}
use Rattle.al_query_outcome.specs.Equations.{is_sound}
use Rattle.al_query_outcome.specs.Results.{Outcome}
use Rattle.al_engine_refresh.specs.Stored.{Stored}
use Rattle.al_engine_refresh.specs.Builds.{results_of}
use Rattle.al_engine_refresh.specs.Found.{findings_of}

-- the files have no errors, if the other units have the outcomes in these entries, and these units are sound
abbrev pub IsCleanBut : Library → (UnitKey → Option Stored) → List UnitKey → Type 0
IsCleanBut lib entries units =
    (f : UnitKey → Option Outcome) → ((w : UnitKey) → has_unit units w ≡ false → f w ≡ results_of entries w) → ((u : UnitKey) → has_unit units u ≡ true → is_sound (f u) ≡ true) → findings_of lib f ≡ []
