-- What must be so for a unit to be checked: that the source is its own, that each unit that encloses it is there by the answers of those
-- nearer to it, and that what their use clauses open is mentioned (ARM 8.4, 10.1.1, 10.1.2).
use Rattle.std.specs.Prelude.{Bool, true, ◌&&◌, ◌||◌, not, List, [], ◌∷◌, Option, Some, None}
use Rattle.std.specs.List.{list_all}
use Rattle.al_base.specs.declared.unit_key.UnitKey.{UnitKey}
use Rattle.al_base.specs.declared.unit_key.UnitKind.TheVariants.{Decl}
use Rattle.al_base_fault.specs.Faults.{fault_at}
use Rattle.al_base_fault.specs.declared.check_rule.CheckRule.TheVariants.{NotVisible}
use Rattle.al_base_fault.specs.declared.fault.Fault.{Fault}
use Rattle.al_query.specs.Answers.{context_of}
use Rattle.al_query.specs.Known.{has_unit}
use Rattle.al_query.specs.Reads.{Table}
use Rattle.al_query.specs.declared.answer.ContextView.{ContextView}
use Rattle.al_query.specs.declared.answer.UseClause.{UseClause}
use Rattle.al_query.specs.declared.answer.UseClause.TheVariants.{Package, «Type», Operators}
use Rattle.al_query.specs.declared.query.Property.TheVariants.{Context}
use Rattle.al_query.specs.declared.query.Query.TheVariants.{Of}
use Rattle.al_scope.specs.UnitPlaces.{asked_units, is_body, is_subunit}
use Rattle.al_scope.specs.declared.own.OwnText.{OwnText}
use Rattle.al_scope.specs.declared.region.UnitPart.{UnitPart}
use Rattle.al_tree_syntax.specs.UnitTrees.{CompilationUnitTree}
use Rattle.al_unit_graph.specs.Headers.{Header, kind_of}
use Rattle.al_unit_graph.specs.Names.{is_without_file}
use Rattle.al_unit_header.specs.Units.{item_name, place_of}
use Rattle.al_view.specs.Symbols.{same_kind, same_unit}
use Rattle.al_check_start.specs.Starts.{key, own_mentions, round, with_halves}

-- the units that enclose a unit, with their other halves
abbrev pub around : Table → UnitKey → Header → List UnitKey
around t unit h = with_halves t unit (round t unit h h.parent_body)

-- whether a source with this header is the unit's own, and its with clauses don't mention the unit itself
abbrev pub is_own : UnitKey → Header → Bool
is_own unit h = same_unit unit (key h.name (kind_of h.form)) && not (has_unit (own_mentions h) unit)

-- whether the outermost unit that encloses a subunit is a library unit's body (ARM 10.1.3(8))
abbrev pub is_in_body : UnitKey → List UnitPart → Bool
is_in_body unit [] = not (is_subunit unit)
is_in_body unit (stub ∷ inner) = is_body stub.unit

-- whether a use clause opens one of these packages, or what is there without a file, or what a body declares
abbrev pub opens_one_of : List UnitKey → UseClause → Bool
opens_one_of packages (Package u) = has_unit packages u
opens_one_of packages («Type» s) = not (same_kind s.unit.kind Decl) || (has_unit packages s.unit || is_without_file s.unit.name)
opens_one_of packages (Operators s types) = true

-- whether all use clauses of a unit with this context do
abbrev pub all_open : List UnitKey → Option ContextView → Bool
all_open packages None = true
all_open packages (Some c) = list_all (opens_one_of packages) c.uses && list_all (λ u. opens_one_of packages u.clause) c.uses_inside

abbrev pub opens_mentioned : Table → List UnitKey → UnitKey → Bool
opens_mentioned t packages u = all_open packages (context_of (t (Of u Context)))

-- whether all that encloses a unit with this header is there, and what its use clauses open is among these packages
abbrev pub is_surrounded : Table → UnitKey → Header → OwnText → List UnitKey → Bool
is_surrounded t unit h own packages =
    is_in_body own.unit own.stubs && (list_all (has_unit (around t unit h)) (asked_units own) && list_all (opens_mentioned t packages) (asked_units own))

-- else E401 at the unit's name
abbrev pub not_surrounded : CompilationUnitTree → Fault
not_surrounded u = fault_at (place_of (item_name u.item)) NotVisible
