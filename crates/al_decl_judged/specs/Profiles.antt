-- What a specification specifies (ARM 6.1(20)).
use Rattle.std.specs.Prelude.{List, [], ◌∷◌, ◌++◌, map, fold, Option, Some, None, option_map, Result, Ok, Err}
use Rattle.std.specs.List.{filter_map}
use Rattle.al_base_fault.specs.declared.fault.Fault.{Fault}
use Rattle.al_view.specs.declared.types.Subtype.{Subtype}
use Rattle.al_view.specs.declared.types.TypeView.{TypeView}
use Rattle.al_view.specs.declared.view.Parameter.{Parameter}
use Rattle.al_view.specs.declared.view.Profile.{Profile}
use Rattle.al_view.specs.declared.view.SubtypeView.{SubtypeView}
use Rattle.al_decl_judged.specs.TypeLists.{joined}
use Rattle.al_decl_judged.specs.declared.specification.Formal.{Formal}
use Rattle.al_decl_judged.specs.declared.specification.Returned.{Returned}
use Rattle.al_decl_judged.specs.declared.specification.Returned.TheVariants as returned
use Rattle.al_decl_judged.specs.declared.specification.Specification.{Specification}
use Rattle.al_decl_judged.specs.declared.heading.FormalPart.{FormalPart}
use Rattle.al_decl_judged.specs.declared.heading.Heading.{Heading}
use Rattle.al_decl_judged.specs.declared.heading.ReturnedPart.{ReturnedPart}
use Rattle.al_decl_judged.specs.declared.heading.ReturnedPart.TheVariants.{NoValue, Value}

-- the subtype of a mark; none if it has a fault
abbrev pub subtype_in : Result SubtypeView Fault → Option Subtype
subtype_in (Ok of) = Some of.subtype
subtype_in (Err f) = None

-- the types that it is of
abbrev pub types_in : Result SubtypeView Fault → List TypeView
types_in (Ok of) = of.types
types_in (Err f) = []

-- ---- as it is compared with others

abbrev pub formal_of : FormalPart → Formal
formal_of f = record { name = f.name.name; mode = f.mode; subtype = subtype_in f.of }

abbrev pub returned_of : ReturnedPart → Returned
returned_of NoValue = returned.NoValue
returned_of (Value of) = returned.Value (subtype_in of)

abbrev pub specification_of : Heading → Specification
specification_of h = record { formals = map formal_of h.formals; returned = returned_of h.returned }

-- ---- as it is declared: of the marks that are right

abbrev pub parameter_of : FormalPart → Option Parameter
parameter_of f = option_map (λ (s : Subtype). record { name = f.name.name; mode = f.mode; subtype = s }) (subtype_in f.of)

abbrev pub result_of : ReturnedPart → Option Subtype
result_of NoValue = None
result_of (Value of) = subtype_in of

abbrev pub profile_of : Heading → Profile
profile_of h = record { parameters = filter_map parameter_of h.formals; result = result_of h.returned }

abbrev pub returned_types : ReturnedPart → List TypeView
returned_types NoValue = []
returned_types (Value of) = types_in of

-- the types of a formal after others
abbrev pub with_formal_types : List TypeView → FormalPart → List TypeView
with_formal_types types f = joined types (types_in f.of)

abbrev pub formal_types : List FormalPart → List TypeView
formal_types formals = fold with_formal_types [] formals

-- the types of the parameters and of the result, each once
abbrev pub profile_types : Heading → List TypeView
profile_types h = joined (formal_types h.formals) (returned_types h.returned)
