-- Formal parameters at a place (ARM 6.1, 8.3).
use Rattle.std.specs.Prelude.{Bool, List, [], ◌∷◌, ◌++◌, fold, map, Option, Some, None, Result, if◌then◌else◌}
use Rattle.al_decl_judged.specs.declared.names.DefiningName.{DefiningName}
use Rattle.al_decl.specs.Declaring.{begun}
use Rattle.al_decl.specs.Inner.{made_visible}
use Rattle.al_decl.specs.Defining.{defining_names}
use Rattle.al_base_fault.specs.declared.fault.Fault.{Fault}
use Rattle.al_decl.specs.PartReadings.{PartReading}
use Rattle.al_scope.specs.Places.{Place}
use Rattle.al_decl_judged.specs.declared.heading.FormalPart.{FormalPart}
use Rattle.al_tree_syntax.specs.DeclarationTrees.{FormalPartTree, FormalTree}
use Rattle.al_view.specs.declared.view.Mode.{Mode}
use Rattle.al_view.specs.declared.view.Mode.TheVariants.{In, InOut, Out}
use Rattle.al_view.specs.declared.view.SubtypeView.{SubtypeView}

-- without a word it is `in` (ARM 6.1(16))
abbrev pub mode_of : Bool → Bool → Mode
mode_of is_in is_out = if is_out then (if is_in then InOut else Out) else In

abbrev pub formal_part : Mode → Result SubtypeView Fault → DefiningName → FormalPart
formal_part mode of n = record { name = n; mode = mode; of = of }

-- each of these names has the one mark of its list, which is read at that place
abbrev pub formal_read : PartReading → Place → FormalTree → List DefiningName → List FormalPart
formal_read R place f names = map (formal_part (mode_of f.is_in f.is_out) (R.mark place f.mark)) names

-- a mark is read where the names of its list are begun
abbrev pub one_read : PartReading → Place → FormalTree → List FormalPart
one_read R place f = formal_read R (begun place (defining_names f.names)) f (defining_names f.names)

-- after it they are visible, without a value: no formal may be named in the part that it is declared in (ARM 6.1(21))
abbrev pub after_formal : Place → FormalTree → Place
after_formal place f = made_visible (begun place (defining_names f.names)) (defining_names f.names)

-- the formals of all lists, each read after those before it
abbrev pub formals_read : PartReading → Place → List FormalTree → List FormalPart
formals_read R place [] = []
formals_read R place (f ∷ fs) = one_read R place f ++ formals_read R (after_formal place f) fs

abbrev pub after_formals : Place → List FormalTree → Place
after_formals place fs = fold after_formal place fs

-- the formals of a specification
abbrev pub formal_list : Option FormalPartTree → List FormalTree
formal_list None = []
formal_list (Some p) = p.first ∷ p.others
