-- Ada files, by what is read in their sources.
use Rattle.std.specs.Prelude.{◌≡◌, ℕ, Bool, List, Some, IsTrue}
use Rattle.std.specs.List.{Contains}
use Rattle.al_base.specs.Files.{Texts}
use Rattle.al_unit_graph.specs.Headers.{Header, Library}
use Rattle.al_unit.specs.Libraries.{library_of, source_of, texts_of}
use Rattle.al_engine_files.specs.Headed.{ReadsHeaders}
use Rattle.al_engine.specs.GraphGraphs.{contents_at, unplaced_contents}
use Rattle.al_engine.specs.Texts.{may_differ, text_in}
use Rattle.al_engine.specs.declared.alike.Edited.{Edited}
use Rattle.al_engine.specs.States.{AreReadFor}

-- what is held of the files is what is read in their sources
abbrev pub AreOfTexts : Library → Type 0
AreOfTexts lib = lib ≡ library_of (texts_of lib)

-- a file with this source was read before as it is now, except for places; if it is known to be the same, its source is unchanged
abbrev pub WasKept : Library → List ℕ → List ℕ → Bool → Type 0
WasKept before file text same = (contents_at before file ≡ Some (unplaced_contents (source_of text).contents)) × (IsTrue same → text_in before file ≡ text)

-- a file with its source was read before as it is now, except for places, and unless its source may differ it is unchanged
abbrev pub IsKnown : Library → Edited → List ℕ × List ℕ → Type 0
IsKnown before edited file = (contents_at before file.0 ≡ Some (unplaced_contents (source_of file.1).contents)) × ((may_differ edited file.0 → ⊥) → text_in before file.0 ≡ file.1)

abbrev pub WereRead : Library → Edited → Texts → Type 0
WereRead before edited files = (file : List ℕ × List ℕ) → Contains files file → IsKnown before edited file

-- what files are read as depends only on their sources; a checker that takes as a source's header what is read in it takes what
-- the files are read as; and exactly the subunits name a parent body
abbrev pub FilesAreRead : Type 0
FilesAreRead = (header : List ℕ → Header) → ReadsHeaders header → AreReadFor header library_of
