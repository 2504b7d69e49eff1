-- The heads of expressions with all that they may mean (ARM 8.6).
use Rattle.std.specs.Prelude.{List, [], ◌∷◌, ◌++◌, Result, Ok, Err, if◌then◌else◌}
use Rattle.std.specs.List.{flat_map, list_any}
use Rattle.al_base.specs.declared.place.Place.{Place}
use Rattle.al_base_fault.specs.declared.check_rule.CheckRule.TheVariants.{NotVisible, WrongKind}
use Rattle.al_overload.specs.Labelling.{Tree, Node, Trees}
use Rattle.al_base_fault.specs.Faults.{fault_at}
use Rattle.al_base_fault.specs.declared.fault.Fault.{Fault}
use Rattle.al_view.specs.declared.symbol.Symbol.{Symbol}
use Rattle.al_view.specs.declared.view.ViewKind.{ViewKind}
use Rattle.al_overload.specs.Candidates.{candidates_of, is_no_value}

-- all that the declarations may be, in their order
abbrev pub all_candidates : Symbol → List ViewKind → Trees → Tree
all_candidates root visible args = Node (flat_map (candidates_of root) visible) args

-- A name where a value or a call is wanted, by what is visible under it: E401 if nothing is, E404 if that is
-- no value and no call.
abbrev pub named : Symbol → Place → List ViewKind → Trees → Result Tree Fault
named root place [] args = Err (fault_at place NotVisible)
named root place (v ∷ vs) args =
    if list_any is_no_value (v ∷ vs) then Err (fault_at place WrongKind) else Ok (all_candidates root (v ∷ vs) args)

-- An operator: those that are visible and those of the root type. It is no fault of its own if there are none.
abbrev pub operated : Symbol → List ViewKind → List ViewKind → Trees → Tree
operated root visible roots args = all_candidates root (visible ++ roots) args
