-- What is wrong with the files of a library.
use Rattle.std.specs.Prelude.{◌≡◌, ℕ, List, [], Option, Some, None}
use Rattle.al_base.specs.Batch.{Finding}
use Rattle.al_base.specs.Files.{Texts}
use Rattle.al_session_served.specs.Builds.{BuildResult, findings_of}
use Rattle.al_session_served.specs.Library.{LibraryMeaning, LastBuild}

-- what compiling the files from nothing, with no main unit, finds wrong with them
abbrev pub FindsBy : LibraryMeaning → Texts → List Finding → Type 0
FindsBy m files found = (gave : BuildResult) × (m.compiles files [] gave) × (found ≡ findings_of gave)

-- what the last build found
abbrev pub found_by : Option LastBuild → List Finding
found_by None = []
found_by (Some last) = findings_of last.gave
