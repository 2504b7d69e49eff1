-- The meaning of the files of a library of Ada units, for a checker of units.
use Rattle.std.specs.Prelude.{ℕ, List}
use Rattle.al_unit_graph.specs.Headers.{Header}
use Rattle.al_unit.specs.Libraries.{library_of}
use Rattle.al_engine_refresh.specs.EntryLaw.{TextMeaning}
use Rattle.al_session_served.specs.Library.{LibraryMeaning}
use Rattle.al_engine_files.specs.PredefinedUnits.{predefined_answer}
use Rattle.al_session.specs.EngineMeanings.{meaning_of}

-- Compiling from nothing, over what each source is parsed as and what the predefined units answer. It depends on no kept entry and no earlier build.
abbrev pub library_meaning : TextMeaning → (List ℕ → Header) → LibraryMeaning
library_meaning meaning header = meaning_of meaning header predefined_answer library_of
