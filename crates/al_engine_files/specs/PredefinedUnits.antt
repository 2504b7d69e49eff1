-- The answers of the predefined units (ARM A.1, A.2, A.10.1, D.8).
use Rattle.std.specs.Prelude.{ℕ, false, List, [], ◌∷◌, Option, Some, None, codes, unwrap_or}
use Rattle.std.specs.List.{find}
use Rattle.std.specs.Option.{option_map}
use Rattle.al_base.specs.declared.unit_key.UnitKey.{UnitKey}
use Rattle.al_view.specs.Named.{Declarations}
use Rattle.al_view.specs.Symbols.{same_unit}
use Rattle.al_view.specs.declared.symbol.Symbol.{Symbol}
use Rattle.al_view.specs.declared.view.ViewKind.TheVariants.{OfPackage}
use Rattle.al_view_predefined.specs.Predefined.{predefined}
use Rattle.al_query.specs.Answers.{declaration}
use Rattle.al_query.specs.Queries.{unit_of}
use Rattle.al_query.specs.declared.answer.AnswerKind.{AnswerKind}
use Rattle.al_query.specs.declared.query.Query.{Query}
use Rattle.al_query_outcome.specs.Tables.{answer_of, interface_of, no_answer}
use Rattle.al_query_outcome.specs.declared.interface.Parts.{Parts}
use Rattle.al_query_outcome.specs.declared.interface.Properties.{Properties}
use Rattle.al_query_outcome.specs.declared.interface.UnitInterface.{UnitInterface}
use Rattle.al_engine_files.specs.declared.package.Package.{Package}

-- the symbol of a package has the last identifier of its name
abbrev pub package_symbol : List ℕ → List ℕ → Symbol
package_symbol name identifier = record { unit = declaration name; name = identifier; number = 0 }

-- a public package without a context that needs no body
abbrev pub package_properties : List ℕ → List ℕ → Option UnitKey → Properties
package_properties name identifier parent = record {
  kind = OfPackage (package_symbol name identifier);
  parent = parent;
  is_private = false;
  context = record { withs = []; uses = []; uses_inside = []; private_types = [] };
  needs_body = false;
  completions = [];
}

-- the declarations of the predefined package of this name
unfoldable pub declared_by : List ℕ → Declarations
declared_by name = unwrap_or (predefined name) []

-- a package that has declarations only in its visible part
abbrev pub visible_alone : Declarations → Parts
visible_alone declared = record { visible = declared; private_part = []; body = []; stubs = [] }

unfoldable pub package_of : List ℕ → List ℕ → Option UnitKey → Package
package_of name identifier parent = record {
  unit = declaration name;
  interface = interface_of (package_properties name identifier parent) (visible_alone (declared_by name));
}

abbrev pub ada : UnitKey
ada = declaration (codes "ada")

-- Standard; Ada, which declares nothing; and two children of Ada
unfoldable pub packages : List Package
packages =
    package_of (codes "standard") (codes "standard") None
    ∷ package_of (codes "ada") (codes "ada") None
    ∷ package_of (codes "ada.text_io") (codes "text_io") (Some ada)
    ∷ package_of (codes "ada.real_time") (codes "real_time") (Some ada)
    ∷ []

-- the interface of this unit's package, among these
abbrev pub interface_in : List Package → UnitKey → Option UnitInterface
interface_in all unit = option_map (λ p. p.interface) (find (λ p. same_unit unit p.unit) all)

abbrev pub answer_with : Option UnitInterface → Query → AnswerKind
answer_with None q = no_answer q
answer_with (Some interface) q = answer_of interface q

-- each predefined unit answers by its package; other units have no views and no properties here
abbrev pub predefined_answer : Query → AnswerKind
predefined_answer q = answer_with (interface_in packages (unit_of q)) q
