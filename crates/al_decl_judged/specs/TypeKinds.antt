-- Declarations of types, from the judged parts of their definitions (ARM 3.2.1).
use Rattle.std.specs.Prelude.{ℕ, ◌-◌, List, [], length, Option, Result, Ok, is_some, option_map, unwrap_or, slice_get, if◌then◌else◌}
use Rattle.al_base_fault.specs.declared.fault.Fault.{Fault}
use Rattle.al_base_fault.specs.Faults.{earlier}
use Rattle.al_base_fault.specs.Judging.{both, next, map_ok, unless}
use Rattle.al_view.specs.declared.symbol.Symbol.{Symbol}
use Rattle.al_view.specs.declared.types.TypeDefinition.{TypeDefinition}
use Rattle.al_view.specs.declared.types.TypeView.{TypeView}
use Rattle.al_view.specs.declared.view.SubtypeView.{SubtypeView}
use Rattle.al_decl_judged.specs.declared.declaration.Declaration.{Declaration}
use Rattle.al_decl_judged.specs.declared.record.Part.{Part}
use Rattle.al_decl_judged.specs.declared.subtype_views.StaticRange.{StaticRange}
use Rattle.al_decl_judged.specs.Homonyms.{Counts}
use Rattle.al_decl_judged.specs.TypeDeclarations.{Sign, declared_with, later_signs, signs_of, spellings, with_names}
use Rattle.al_decl_judged.specs.Types.{array_type, enumeration_type, integer_type, record_type}
use Rattle.al_view_predefined.specs.Standard.{private_type}
use Rattle.al_decl_judged.specs.Declaring.{DeclaredTree, declares}
use Rattle.al_decl_judged.specs.DefiningNames.{named_so, names_of, repeated}
use Rattle.al_decl_judged.specs.Progressing.{type_counted, type_symbol}
use Rattle.al_decl_judged.specs.declared.names.DefiningName.{DefiningName}
use Rattle.al_decl_judged.specs.declared.names.TypeName.{TypeName}
use Rattle.al_decl_judged.specs.declared.progress.Progress.{Progress}

-- a type comes last, after the types that it is of
abbrev pub own_type : List TypeView → Option TypeView
own_type types = slice_get types (length types - 1)

-- the operators that a declaration of a type declares: the full one of a private type all but those of its partial view (ARM 7.3.1(3))
abbrev pub signs_by : TypeName → TypeDefinition → List Sign
signs_by n definition = if is_some n.partial then later_signs definition else signs_of definition

-- what the declaration of a type declares: the type, its literals and its operators
abbrev pub declarations_of : TypeName → List TypeView → List (List ℕ) → Counts → List Declaration
declarations_of n types literals counts =
    unwrap_or (option_map (λ (of : TypeView). declared_with (signs_by n of.definition) of types literals counts) (own_type types)) []

-- its literals and operators are counted
abbrev pub counts_after : TypeName → List TypeView → List (List ℕ) → Counts → Counts
counts_after n types literals counts =
    unwrap_or (option_map (λ (of : TypeView). with_names (with_names counts literals) (spellings (signs_by n of.definition))) (own_type types)) counts

-- a type that is right, with its literals: its name is counted already
abbrev pub with_type : Progress → TypeName → List (List ℕ) → List TypeView → Progress × DeclaredTree
with_type p n literals types = (record p { homonyms = counts_after n types literals p.homonyms }, declares (declarations_of n types literals p.homonyms))

-- a type by its name, its literals, what is wrong with their names, and what its definition makes of its symbol
abbrev pub type_declared : Progress → TypeName → Option Fault → List (List ℕ) → (Symbol → Result (List TypeView) Fault) → Result (Progress × DeclaredTree) Fault
type_declared p n names literals define = map_ok (with_type (type_counted p n) n literals) (unless names (define (type_symbol p n)))

-- type N is range L .. H
abbrev pub integer_declared : Progress → TypeName → Option Fault → Result StaticRange Fault → Result (Progress × DeclaredTree) Fault
integer_declared p n duplicate range = type_declared p n duplicate [] (λ symbol. next range (λ r. Ok (integer_type symbol r.bounds)))

-- what is wrong with the names of literals: one is there twice, or is the type's
abbrev pub literals_fault : DefiningName → List DefiningName → Option Fault
literals_fault n literals = earlier (named_so n.name literals) (repeated [] literals)

-- type N is (L, L, ..)
abbrev pub enumeration_declared : Progress → TypeName → Option Fault → List DefiningName → Result (Progress × DeclaredTree) Fault
enumeration_declared p n duplicate literals =
    type_declared p n (earlier duplicate (literals_fault n.defining literals)) (names_of literals) (λ symbol. Ok (enumeration_type symbol (length (names_of literals))))

-- type N is array (I) of C
abbrev pub array_declared : Progress → TypeName → Option Fault → Result SubtypeView Fault → Result SubtypeView Fault → Result (Progress × DeclaredTree) Fault
array_declared p n duplicate index component =
    type_declared p n duplicate [] (λ symbol. next (both index component) (λ s. array_type symbol n.defining.place s.0 s.1))

-- type N is record P; P; .. end record, or null record
abbrev pub record_declared : Progress → TypeName → Option Fault → Result (List Part) Fault → Result (Progress × DeclaredTree) Fault
record_declared p n duplicate parts = type_declared p n duplicate [] (λ symbol. next parts (λ ps. record_type symbol n.defining.place ps))

-- type N is private, of whose values the words alone are known (ARM 7.3)
abbrev pub private_declared : Progress → TypeName → Option Fault → ℕ → Result (Progress × DeclaredTree) Fault
private_declared p n duplicate words = type_declared p n duplicate [] (λ symbol. Ok (private_type symbol words))
