-- What is kept of a source.
use Rattle.std.specs.Prelude.{◌≡◌, ℕ, List, Option, IfSome, option_map}
use Rattle.al_tree.specs.UnitViews.{unit_model}
use Rattle.al_unit_graph.specs.Views.{header_model}
use Rattle.al_unit_header.specs.Units.{header_of}
use Rattle.al_unit.specs.Texts.{unit_in}
use Rattle.al_unit.specs.declared.read_unit.ReadUnit.{ReadUnit}

-- it is the unit of that source, if there is one, with the header of its tree
pub record IsReadIn (text : List ℕ) (unit : Option ReadUnit) : Type 0 where
  pub tree : option_map (λ u. unit_model u.tree) unit ≡ unit_in text
  pub header : IfSome unit (λ u. header_model u.header ≡ header_of (unit_model u.tree))
