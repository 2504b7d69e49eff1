-- Declarations at the place that the check of a unit has reached (ARM 3.1, 6.1, 8.4), by a table of answers.
use Rattle.std.specs.Prelude.{ℕ, Bool, ◌&&◌, List, [], ◌∷◌, Option, Some, None, Result, Ok, Err, if◌then◌else◌}
use Rattle.std.specs.Option.{option_map_or}
use Rattle.al_stmts.specs.Walking.{first_line}
use Rattle.al_check_here.specs.Faulty.{effect_settled, ended}
use Rattle.al_check_here.specs.PartsHere.{with_uses}
use Rattle.al_check_here.specs.Stacks.{is_bare}
use Rattle.al_check_here.specs.Standings.{is_nowhere, with_here}
use Rattle.al_check_here.specs.declared.state.CheckState.{CheckState}
use Rattle.al_decl_ada.specs.AdaPartReading.{parts_read}
use Rattle.al_check_declared.specs.Nowhere.{not_yet_fault}
use Rattle.al_base.specs.declared.unit_key.UnitKind.TheVariants.{Decl}
use Rattle.al_decl.specs.Regions.{in_regions}
use Rattle.al_decl.specs.Items.{object_checked, subtype_item_checked, type_checked}
use Rattle.al_decl.specs.Placing.{subprogram_checked}
use Rattle.al_base_fault.specs.declared.fault.Fault.{Fault}
use Rattle.al_decl.specs.PartReadings.{PartReading}
use Rattle.al_query.specs.Reads.{Table}
use Rattle.al_query.specs.declared.answer.UseClause.{UseClause}
use Rattle.al_scope.specs.declared.region.Region.{Region}
use Rattle.al_tree_syntax.specs.DeclarationTrees.{CommonTree, SpecificationTree}
use Rattle.al_tree_syntax.specs.DeclarationTrees.CommonTree.{ObjectDeclaration, TypeDeclaration, SubtypeDeclaration, UseClause as UseItem, PragmaItem}
use Rattle.al_view_typed.specs.DeclarationTrees.{DeclarationTree}
use Rattle.al_scope_context.specs.Pragmas.{pragma_fault}
use Rattle.al_scope_context.specs.UsesAt.{used_in, uses_at}
use Rattle.al_scope.specs.PartialViews.{declared_type}
use Rattle.al_view.specs.Interfaces.{views_of}
use Rattle.al_view.specs.Symbols.{same_kind, same_part}
use Rattle.al_view.specs.Types.{layout_words}
use Rattle.al_view.specs.declared.part.Part.TheVariants as part
use Rattle.al_view.specs.declared.types.TypeView.{TypeView}
use Rattle.al_view.specs.declared.view.ViewKind.{ViewKind}
use Rattle.al_stmts.specs.Readings.{Read}

-- the analyzer of the parts of declarations at the place
abbrev pub parts_here : Table → CheckState → PartReading
parts_here t h = parts_read t h.unit.packages h.unit.labeller.predefined h.unit.labeller.own h.unit.own.unit

abbrev pub with_regions : CheckState → List Region → CheckState
with_regions h regions = with_here h (record h.env { scope = in_regions h.env.scope regions })

-- after an error nothing of the place is looked at any more
abbrev pub faulty_here : CheckState → Fault → Read CheckState (List DeclarationTree)
faulty_here h f = (ended h, Err f)

-- ---- use clauses and pragmas, which declare nothing

abbrev pub uses_settled : CheckState → Result (List UseClause) Fault → Read CheckState (List DeclarationTree)
uses_settled h (Ok clauses) = (with_uses h clauses, Ok [])
uses_settled h (Err f) = faulty_here h f

abbrev pub uses_read : CheckState → Result (List UseClause) Fault → Read CheckState (List DeclarationTree)
uses_read h clauses = uses_settled (with_regions h (used_in clauses h.env.scope.regions)) clauses

-- the place is in the visible part of a package's declaration, in which nothing is declared so far
abbrev pub is_at_head : CheckState → Bool
is_at_head h = (h.unit.own.is_package && same_kind h.unit.own.unit.kind Decl) && (is_bare h.visible && is_bare h.env.declared)

abbrev pub package_name : CheckState → Option (List ℕ)
package_name h = if is_at_head h then Some h.unit.own.symbol.name else None

abbrev pub pragma_settled : CheckState → Option Fault → Read CheckState (List DeclarationTree)
pragma_settled h None = (h, Ok [])
pragma_settled h (Some f) = faulty_here h f

-- ---- private types

-- the number of words of a value of the type that is declared first under a name
abbrev pub type_words : List ViewKind → ℕ
type_words [] = 0
type_words (v ∷ vs) = option_map_or (λ (t : TypeView). layout_words t.layout) (declared_type v) 0

-- a private type is allowed in the visible part of a package (ARM 7.3(4)); its values have the words of its full declaration
abbrev pub private_words : CheckState → List ℕ → Option ℕ
private_words h name =
    if h.unit.own.is_package && same_part h.part part.Visible then Some (type_words (views_of h.unit.private_part name)) else None

-- ---- declarations that are allowed in packages and in bodies

abbrev pub open_declared : Table → CheckState → CommonTree → Read CheckState (List DeclarationTree)
open_declared t h (ObjectDeclaration o) = effect_settled h (object_checked (parts_here t h) t h.env o)
open_declared t h (TypeDeclaration d) = effect_settled h (type_checked (parts_here t h) t h.env (private_words h d.name.text) d)
open_declared t h (SubtypeDeclaration s) = effect_settled h (subtype_item_checked (parts_here t h) t h.env s)
open_declared t h (UseItem u) = uses_read h (uses_at t h.env.scope h.unit.packages u)
open_declared t h (PragmaItem p) = pragma_settled h (pragma_fault (package_name h) p)

-- outside of all regions nothing is declared
abbrev pub no_place : CheckState → Read CheckState (List DeclarationTree)
no_place h = faulty_here h not_yet_fault

abbrev pub declared_here : Table → CheckState → CommonTree → Read CheckState (List DeclarationTree)
declared_here t h c = if is_nowhere h then no_place h else open_declared t h c

-- the declaration of a subprogram inside a unit
abbrev pub nested_declared : Table → CheckState → SpecificationTree → Read CheckState (List DeclarationTree)
nested_declared t h s = effect_settled h (subprogram_checked (parts_here t h) t h.env (first_line s) s)
