-- What the graph of units needs to know of a library's files.
use Rattle.std.specs.Prelude.{ℕ, Bool, true, false, List, Option}
use Rattle.al_base.specs.Batch.{Key}
use Rattle.al_base.specs.declared.place.Place.{Place}
use Rattle.al_base.specs.declared.unit_key.UnitKind.{UnitKind}
use Rattle.al_base.specs.declared.unit_key.UnitKind.TheVariants.{Decl, Body, Sub}
use Rattle.al_unit_graph.specs.declared.header.UnitForm.{UnitForm}
use Rattle.al_unit_graph.specs.declared.header.UnitForm.TheVariants.{PackageDeclaration, SubprogramDeclaration, PackageBody, SubprogramBody, SubunitBody}

-- the name of a unit, and its place: that of its first identifier
pub record Mention : Type 0 where
  pub name : List ℕ
  pub place : Place

-- what a compilation unit says of itself
pub record Header : Type 0 where
  -- the full name; for a subunit with that of its parent body before it (ARM 10.1.3(8))
  pub name : List ℕ
  -- the place of the name; for a subunit that of the name of its body
  pub place : Place
  pub form : UnitForm
  -- declared with the word private (ARM 10.1.1(12))
  pub is_private : Bool
  -- a declaration that a body completes (ARM 6.1(20), 7.2(4))
  pub needs_body : Bool
  -- the name of the parent body of a subunit (ARM 10.1.3(8))
  pub parent_body : Option Mention
  -- the name as it is written in the declaration or the body; for a subunit without that of its parent body
  pub designator : List ℕ
  -- the names in the with clauses (ARM 10.1.2(4))
  pub mentions : List Mention
  -- the names of the stubs that are immediately in a body's declarative part (ARM 10.1.3(2))
  pub stubs : List (List ℕ)
  -- the names in the pragmas Elaborate of the context clause (ARM 10.2.1(20))
  pub elaborate : List (List ℕ)
  -- the names in the pragmas Elaborate_All of the context clause (ARM 10.2.1(21))
  pub elaborate_all : List (List ℕ)
  -- a package's declaration with the pragma Elaborate_Body in its place (ARM 10.2.1(20))
  pub has_elaborate_body : Bool
  -- a procedure without parameters, which alone can be the main unit (ARM 10.2(7))
  pub is_parameterless_procedure : Bool

-- a unit; or no compilation unit, with the place and the number of the first lexical fault, or else of the syntax fault
pub data Contents : Type 0 where
  Headed : Header → Contents
  Unread : Place → ℕ → Contents

-- the source in a file, and what it is read as
pub record Source : Type 0 where
  pub text : List ℕ
  pub contents : Contents

-- for each file its name and its source
abbrev pub Library : Type 0
Library = List (List ℕ × Source)

abbrev pub kind_of : UnitForm → UnitKind
kind_of PackageDeclaration = Decl
kind_of SubprogramDeclaration = Decl
kind_of PackageBody = Body
kind_of SubprogramBody = Body
kind_of SubunitBody = Sub

abbrev pub key_of_unit : Header → Key
key_of_unit h = (h.name, kind_of h.form)

-- a package's declaration
abbrev pub is_package : UnitForm → Bool
is_package PackageDeclaration = true
is_package SubprogramDeclaration = false
is_package PackageBody = false
is_package SubprogramBody = false
is_package SubunitBody = false

-- a package's body as a library item
abbrev pub is_package_body : UnitForm → Bool
is_package_body PackageDeclaration = false
is_package_body SubprogramDeclaration = false
is_package_body PackageBody = true
is_package_body SubprogramBody = false
is_package_body SubunitBody = false

-- a subprogram's body as a library item: if it completes no declaration it acts as one (ARM 10.1.4(4))
abbrev pub is_subprogram_body : UnitForm → Bool
is_subprogram_body PackageDeclaration = false
is_subprogram_body SubprogramDeclaration = false
is_subprogram_body PackageBody = false
is_subprogram_body SubprogramBody = true
is_subprogram_body SubunitBody = false

-- the body of a library unit
abbrev pub is_library_body : UnitForm → Bool
is_library_body PackageDeclaration = false
is_library_body SubprogramDeclaration = false
is_library_body PackageBody = true
is_library_body SubprogramBody = true
is_library_body SubunitBody = false
