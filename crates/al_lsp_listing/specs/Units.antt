-- How a unit is listed.
use Rattle.std.specs.Prelude.{ℕ, List}
use Rattle.al_base.specs.declared.place.Place.{Place}
use Rattle.al_unit_graph.specs.declared.header.UnitForm.{UnitForm}
use Rattle.al_unit_graph.specs.declared.header.UnitForm.TheVariants as forms
use Rattle.al_lsp_outline.specs.declared.headed.Heading.{Heading}
use Rattle.al_lsp_served.specs.declared.points.UnitName.{UnitName}

-- the protocol's number of what a unit is (`SymbolKind`): a package, or a function
abbrev pub unit_number : UnitForm → ℕ
unit_number forms.PackageDeclaration = 4
unit_number forms.PackageBody = 4
unit_number forms.SubprogramDeclaration = 12
unit_number forms.SubprogramBody = 12
unit_number forms.SubunitBody = 12

pub record ListedUnit : Type 0 where
  pub name : List ℕ
  pub number : ℕ
  pub place : Place

abbrev pub unit_view : UnitName → ListedUnit
unit_view u = record { name = u.name.items; number = u.kind; place = u.place }

abbrev pub unit_heading : Heading → ListedUnit
unit_heading h = record { name = h.name; number = unit_number h.form; place = h.place }
