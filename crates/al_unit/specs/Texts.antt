-- What is read in a source of Ada.
use Rattle.std.specs.Prelude.{◌≡◌, ◌≤◌, ℕ, false, List, [], Option, Some, None, length, nat_le, if◌then◌else◌}
use Rattle.al_tree_syntax.specs.UnitTrees.{CompilationUnitTree}
use Rattle.al_unit_header.specs.Units.{header_of}
use Rattle.al_unit_graph.specs.Headers.{Header}
use Rattle.al_unit_graph.specs.declared.header.UnitForm.TheVariants.{PackageDeclaration}
use Rattle.al_unit.specs.Readings.{Reading, reading_of, unit_read}
use Rattle.al_unit.specs.Readings.Reading.{Sentence, Fails}

-- the unit that a source is read as; none in one that is no unit, nor in one with more bytes than can be read
unfoldable pub unit_in : List ℕ → Option CompilationUnitTree
unit_in text = if nat_le (length text) 4294967294 then unit_read (reading_of text) else None

-- the header of a source that is no unit
abbrev pub no_header : Header
no_header = record {
  name = [];
  place = record { line = 1; col = 1 };
  form = PackageDeclaration;
  is_private = false;
  needs_body = false;
  parent_body = None;
  designator = [];
  mentions = [];
  stubs = [];
  elaborate = [];
  elaborate_all = [];
  has_elaborate_body = false;
  is_parameterless_procedure = false;
}

abbrev pub header_if_read : Reading → Header
header_if_read (Sentence tree) = header_of tree
header_if_read (Fails place code) = no_header

-- what a source says of its unit
unfoldable pub header_in : List ℕ → Header
header_in text = header_if_read (reading_of text)

-- if a source is read as a unit it is the header of its tree
abbrev pub HeadersAreRead : Type 0
HeadersAreRead = (text : List ℕ) (tree : CompilationUnitTree) → reading_of text ≡ Sentence tree → header_in text ≡ header_of tree

-- a source in which there is a unit can be read, and is read as that unit
abbrev pub UnitsAreRead : Type 0
UnitsAreRead = (text : List ℕ) (tree : CompilationUnitTree) → unit_in text ≡ Some tree → (length text ≤ 4294967294) × (reading_of text ≡ Sentence tree)
