-- Only the subunits of a library of sources name a parent body, whatever is taken for the header of a source that is no unit.
use Rattle.std.proofs.Common.{ℕ, List, [], false, None, ap}
use Rattle.al_base.specs.Files.{Texts}
use Rattle.al_unit_header.specs.Units.{header_of}
use Rattle.al_unit_graph.specs.Headers.{Header}
use Rattle.al_unit_graph.specs.declared.header.UnitForm.TheVariants.{PackageDeclaration}
use Rattle.al_unit.specs.Libraries.{library_of}
use Rattle.al_unit.specs.Readings.{Reading, reading_of}
use Rattle.al_unit.specs.Readings.Reading.{Sentence, Fails}
use Rattle.al_engine_files.specs.Headed.{ReadsHeaders, TextsAreHeaded}
use Rattle.al_unit_faults.specs.Read.{NameParentBodies}

no_header : Header
no_header = record {
  name = [];
  place = record { line = 1; col = 1 };
  form = PackageDeclaration;
  is_private = false;
  needs_body = false;
  parent_body = None;
  designator = [];
  mentions = [];
  stubs = [];
  elaborate = [];
  elaborate_all = [];
  has_elaborate_body = false;
  is_parameterless_procedure = false;
}

header_if : Reading → Header
header_if (Sentence unit) = header_of unit
header_if (Fails place code) = no_header

reads : ReadsHeaders (λ text. header_if (reading_of text))
unfolding header_if
reads text unit is = ap header_if is

pub named : TextsAreHeaded → (files : Texts) → NameParentBodies (library_of files)
named headed files = (headed (λ text. header_if (reading_of text)) files reads).1
