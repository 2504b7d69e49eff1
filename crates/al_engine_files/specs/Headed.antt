-- The headers of a library of sources.
use Rattle.std.specs.Prelude.{◌≡◌, ℕ, List}
use Rattle.al_base.specs.Files.{Texts}
use Rattle.al_tree_syntax.specs.UnitTrees.{CompilationUnitTree}
use Rattle.al_unit_header.specs.Units.{header_of}
use Rattle.al_unit_graph.specs.Headers.{Header}
use Rattle.al_unit.specs.Libraries.{library_of}
use Rattle.al_unit.specs.Readings.{reading_of}
use Rattle.al_unit.specs.Readings.Reading.{Sentence}
use Rattle.al_unit_faults.specs.Read.{AreHeaded, NameParentBodies}

-- the header of each source that is a unit is that of its tree
abbrev pub ReadsHeaders : (List ℕ → Header) → Type 0
ReadsHeaders header = (text : List ℕ) (unit : CompilationUnitTree) → reading_of text ≡ Sentence unit → header text ≡ header_of unit

abbrev pub TextsAreHeaded : Type 0
TextsAreHeaded = (header : List ℕ → Header) (files : Texts) → ReadsHeaders header → AreHeaded header (library_of files) × NameParentBodies (library_of files)
