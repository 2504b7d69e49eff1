-- The law of a call whose actual parameters have a fault.
use Rattle.std.specs.Prelude.{◌≡◌, ℕ, codes, Option, Some}
use Rattle.al_base.specs.declared.place.Place.{Place}
use Rattle.al_base_fault.specs.declared.fault.Fault.{Fault}
use Rattle.al_view.specs.declared.symbol.Symbol.{Symbol}
use Rattle.al_view.specs.declared.view.CallKind.TheVariants as calls
use Rattle.al_view.specs.declared.view.SubprogramView.{SubprogramView}
use Rattle.al_view_typed.specs.ExpressionTrees.{ActualTree}
use Rattle.al_overload_nodes.specs.Calls.{function_form}
use Rattle.al_overload_nodes.specs.Gathering.{Parts}

-- a call of Milliseconds has the fault of a call of any function with these actual parameters: the fault in them, at its place
abbrev pub MillisecondsAreLikeOthers : Type 0
MillisecondsAreLikeOthers =
    (own : Option Symbol) (place : Place) (milliseconds other : SubprogramView) (depth : ℕ) (actuals : Parts ActualTree) (fault : Fault)
    → milliseconds.symbol.name ≡ codes "milliseconds" → other.call ≡ calls.Subprogram depth → actuals.fault ≡ Some fault
    → function_form own place milliseconds actuals calls.Predefined ≡ function_form own place other actuals (calls.Subprogram depth)
