-- What the unit of a source is called.
use Rattle.std.specs.Prelude.{ℕ, List, Option, option_map}
use Rattle.al_tree_syntax.specs.UnitTrees.{CompilationUnitTree}
use Rattle.al_unit.specs.Readings.{reading_of, unit_read}
use Rattle.al_unit_header.specs.Units.{header_of}
use Rattle.al_lsp_outline.specs.declared.headed.Heading.{Heading}

abbrev pub heading_of : CompilationUnitTree → Heading
heading_of unit = let header = header_of unit in record { name = header.name; place = header.place; form = header.form }

-- none where the source is no unit
abbrev pub text_heading : List ℕ → Option Heading
text_heading text = option_map heading_of (unit_read (reading_of text))
