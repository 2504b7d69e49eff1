-- Declarations of protected objects at a place (ARM 9.4).
use Rattle.std.specs.Prelude.{ℕ, List, [], Option, Some, option_map, Result, Ok}
use Rattle.al_base.specs.declared.place.Place.{Place as TextPlace}
use Rattle.al_base_fault.specs.Judging.{map_ok, next, unless}
use Rattle.al_base_fault.specs.declared.fault.Fault.{Fault}
use Rattle.al_decl.specs.Checking.{inside_one, with_progress, with_scope}
use Rattle.al_decl.specs.Inner.{in_region}
use Rattle.al_decl.specs.declared.env.Environment.{Environment}
use Rattle.al_decl_judged.specs.Progressing.{after_protected, symbol_of, with_counted}
use Rattle.al_decl_judged.specs.declared.names.DefiningName.{DefiningName}
use Rattle.al_decl_judged.specs.declared.progress.Progress.{Progress}
use Rattle.al_decl.specs.Defining.{defined}
use Rattle.al_decl.specs.PartReadings.{PartReading}
use Rattle.al_overload_lookup.specs.Places.{place_of}
use Rattle.al_query.specs.Reads.{Table}
use Rattle.al_stmts.specs.Ends.{end_fault}
use Rattle.al_tree_grammar.specs.Grammar.{Label}
use Rattle.al_tree_syntax.specs.DeclarationTrees.{ProtectedTree}
use Rattle.al_view.specs.declared.symbol.Symbol.{Symbol}
use Rattle.al_view.specs.declared.view.Operation.{Operation}
use Rattle.al_view.specs.declared.view.ViewKind.{ViewKind}
use Rattle.al_view.specs.declared.view.ViewKind.TheVariants.{OfProtected}
use Rattle.al_view_typed.specs.DeclarationTrees.{DeclarationTree, SingleProtected}
use Rattle.al_decl_protected.specs.Components.{PrivateTree, components_checked, no_components, private_list}
use Rattle.al_decl_protected.specs.Levels.{level_named}
use Rattle.al_decl_protected.specs.Operations.{Declared, operations_checked}
use Rattle.al_decl_protected.specs.Placing.{placed}

-- what is inside: the operations, the components
pub record InsideTree : Type 0 where
  pub operations : List Operation
  pub private_part : PrivateTree

abbrev pub nothing_inside : InsideTree
nothing_inside = record { operations = []; private_part = no_components }

-- with what the declarations have taken then
abbrev pub Inside : Type 0
Inside = Progress × InsideTree

abbrev pub inside_of : Declared → PrivateTree → Inside
inside_of d c = (d.0.progress, record { operations = d.1; private_part = c })

-- the components come after the operations, in the same region
abbrev pub components_inside : PartReading → Table → PrivateTree → ProtectedTree → Declared → Result Inside Fault
components_inside R t before o d = map_ok (inside_of d) (components_checked R t d.0.scope before (private_list o.private_part))

-- after what is inside so far
abbrev pub inside_after : PartReading → Table → Environment → Symbol → InsideTree → ProtectedTree → Result Inside Fault
inside_after R t h symbol before o = next (operations_checked R t h symbol before.operations o.operations) (components_inside R t before.private_part o)

-- operations and components are in a region of the object (ARM 8.1)
abbrev pub inside_checked : PartReading → Table → Environment → Symbol → ProtectedTree → Result Inside Fault
inside_checked R t h symbol o = inside_after R t (with_scope h (in_region h.scope)) symbol nothing_inside o

-- ---- the object

abbrev pub object_view : Symbol → ℕ → InsideTree → ViewKind
object_view symbol ceiling i = OfProtected (record {
  symbol = symbol;
  operations = i.operations;
  components = i.private_part.components;
  types = i.private_part.types;
  ceiling = ceiling;
})

-- its components begin with their values at its place
abbrev pub object_effect : ℕ → Symbol → InsideTree → DeclarationTree
object_effect line symbol i = record { line = line; form = SingleProtected symbol i.private_part.values }

abbrev pub object_placed : Environment → ℕ → DefiningName → Symbol → ℕ → InsideTree → Environment × Option DeclarationTree
object_placed h line n symbol ceiling i =
    placed (with_progress h (after_protected h.progress symbol i.private_part.words ceiling)) n.name (object_view symbol ceiling i) (object_effect line symbol i)

-- the name at the end is the object's
abbrev pub named_end : Label → TextPlace × List ℕ
named_end l = (place_of l, l.text)

abbrev pub object_end : DefiningName → Option Label → Option Fault
object_end n end_name = end_fault (Some n.name) (option_map named_end end_name)

abbrev pub object_ended : Environment → ℕ → DefiningName → Symbol → ℕ → ProtectedTree → Inside → Result (Environment × Option DeclarationTree) Fault
object_ended h line n symbol ceiling o i = unless (object_end n o.end_name) (Ok (object_placed (with_progress h i.0) line n symbol ceiling i.1))

abbrev pub object_defined : PartReading → Table → Environment → ℕ → DefiningName → Symbol → ProtectedTree → ℕ → Result (Environment × Option DeclarationTree) Fault
object_defined R t h line n symbol o ceiling = next (inside_checked R t h symbol o) (object_ended h line n symbol ceiling o)

-- it is judged in steps, and a faulty one ends the list: name and aspect, each operation, each list of components, the name at the end
abbrev pub object_leveled : PartReading → Table → Environment → ℕ → DefiningName → ProtectedTree → ℕ → Result (Environment × Option DeclarationTree) Fault
object_leveled R t h line n o ceiling = object_defined R t (with_progress h (with_counted h.progress n.name)) line n (symbol_of h.progress n.name) o ceiling

-- without an aspect its ceiling is 30 (ARM D.3(10))
abbrev pub object_named : PartReading → Table → Environment → ℕ → DefiningName → ProtectedTree → Result (Environment × Option DeclarationTree) Fault
object_named R t h line n o = next (level_named R t h n 30 o.aspect) (object_leveled R t (inside_one h n) line n o)

abbrev pub protected_checked : PartReading → Table → Environment → ℕ → ProtectedTree → Result (Environment × Option DeclarationTree) Fault
protected_checked R t h line o = object_named R t h line (defined o.name) o
