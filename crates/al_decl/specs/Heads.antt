-- Heads of subprograms at a place (ARM 6.1).
use Rattle.std.specs.Prelude.{ℕ, ◌-◌, Bool, true, false, List, [], ◌∷◌, ◌++◌, length, Option, slice_get, unwrap_or}
use Rattle.al_decl.specs.Inner.{in_region}
use Rattle.al_decl_judged.specs.declared.names.DefiningName.{DefiningName}
use Rattle.al_tree_grammar.specs.Grammar.{Label}
use Rattle.al_overload_lookup.specs.Places.{place_of}
use Rattle.al_decl.specs.PartReadings.{PartReading}
use Rattle.al_scope.specs.Places.{Place}
use Rattle.al_decl_judged.specs.declared.heading.Heading.{Heading}
use Rattle.al_decl_judged.specs.declared.heading.ReturnedPart.{ReturnedPart}
use Rattle.al_decl_judged.specs.declared.heading.ReturnedPart.TheVariants.{NoValue, Value}
use Rattle.al_tree_syntax.specs.DeclarationTrees.{CompoundNameTree, FormalPartTree, FormalTree, SpecificationTree}
use Rattle.al_tree_syntax.specs.DeclarationTrees.SpecificationTree.{ProcedureSpecification, FunctionSpecification}
use Rattle.al_decl.specs.Formals.{after_formals, formal_list, formals_read}

abbrev pub name_of : SpecificationTree → CompoundNameTree
name_of (ProcedureSpecification l n f) = n
name_of (FunctionSpecification l n f r m) = n

abbrev pub formal_part_of : SpecificationTree → Option FormalPartTree
formal_part_of (ProcedureSpecification l n f) = f
formal_part_of (FunctionSpecification l n f r m) = f

abbrev pub formals_of : SpecificationTree → List FormalTree
formals_of s = formal_list (formal_part_of s)

-- the last identifier of a name
abbrev pub last_of : CompoundNameTree → Label
last_of n = unwrap_or (slice_get n.selectors (length n.selectors - 1)) n.first

-- the defining name of a unit with dots is its last identifier; its place is its first token
abbrev pub compound_defined : CompoundNameTree → DefiningName
compound_defined n = record { name = (last_of n).text; place = place_of n.first }

abbrev pub has_some : List Label → Bool
has_some [] = false
has_some (l ∷ ls) = true

abbrev pub is_dotted : CompoundNameTree → Bool
is_dotted n = has_some n.selectors

-- the result's mark is read after the formals
abbrev pub returned_read : PartReading → Place → SpecificationTree → ReturnedPart
returned_read R place (ProcedureSpecification l n f) = NoValue
returned_read R place (FunctionSpecification l n f r m) = Value (R.mark place m)

abbrev pub bare : SpecificationTree → Heading
bare s = record { name = compound_defined (name_of s); is_dotted = is_dotted (name_of s); formals = []; returned = NoValue }

abbrev pub filled : PartReading → Place → SpecificationTree → Heading → Heading
filled R place s h = record h { formals = h.formals ++ formals_read R place (formals_of s); returned = returned_read R (after_formals place (formals_of s)) s }

-- formals are in a region of their own (ARM 8.1)
abbrev pub heading_read : PartReading → Place → SpecificationTree → Heading
heading_read R place s = record {
  name = compound_defined (name_of s);
  is_dotted = is_dotted (name_of s);
  formals = formals_read R (in_region place) (formals_of s);
  returned = returned_read R (after_formals (in_region place) (formals_of s)) s;
}
