-- A fault in the actual parameters is reported for the call.
use Rattle.std.proofs.Common.{◌≡◌, ℕ, Bool, false, cond, codes, List, Option, Some, None, Result, Ok, Err, refl, sym, ◌∙◌, ap}
use Rattle.std.specs.Option.{option_map_or}
use Rattle.std.specs.Str.{bytes_eq}
use Rattle.al_base.specs.declared.place.Place.{Place}
use Rattle.al_base_fault.specs.declared.check_rule.CheckRule.TheVariants.{OwnOperation}
use Rattle.al_base_fault.specs.declared.fault.Fault.{Fault}
use Rattle.al_base_fault.specs.Faults.{fault_at}
use Rattle.al_base_fault.specs.Judging.{map_ok, unless}
use Rattle.al_overload.specs.Meanings.{nothing_fits}
use Rattle.al_view.specs.declared.symbol.Symbol.{Symbol}
use Rattle.al_view.specs.declared.view.CallKind.{CallKind}
use Rattle.al_view.specs.declared.view.CallKind.TheVariants as calls
use Rattle.al_view.specs.declared.view.SubprogramView.{SubprogramView}
use Rattle.al_view_typed.specs.ExpressionTrees.{ActualTree, CallTree, FormTree}
use Rattle.al_view_typed.specs.ExpressionTrees.FormTree.{CallForm, ClockForm}
use Rattle.al_overload_nodes.specs.ActualFaults.{MillisecondsAreLikeOthers}
use Rattle.al_overload_nodes.specs.Calls.{call_with, callee_of, is_of_object, is_own_of, own_fault, predefined_form, span_unless}
use Rattle.al_overload_nodes.specs.Gathering.{Parts}

told : (place : Place) (s : SubprogramView) (actuals : Parts ActualTree) (fault : Fault) → s.symbol.name ≡ codes "milliseconds" → actuals.fault ≡ Some fault → predefined_form place s actuals ≡ Err fault
told place s actuals fault name there =
    ap (λ (n : List ℕ). cond (bytes_eq n (codes "clock")) (Ok ClockForm) (cond (bytes_eq n (codes "milliseconds")) (span_unless actuals.fault place actuals.items) (Err (nothing_fits place)))) name
    ∙ ap (λ (o : Option Fault). span_unless o place actuals.items) there

-- a subprogram that no object has is no operation of one
not_own : (own : Option Symbol) (place : Place) (s : SubprogramView) (depth : ℕ) → s.call ≡ calls.Subprogram depth → own_fault own place s ≡ None
not_own own place s depth call = ap (λ (b : Bool). cond b (Some (fault_at place OwnOperation)) None) (at own)
  where
    at : (o : Option Symbol) → option_map_or (is_own_of s) o false ≡ false
    at None = refl
    at (Some object) = ap (λ (k : CallKind). is_of_object object k s.flag) call

other_told : (own : Option Symbol) (place : Place) (s : SubprogramView) (depth : ℕ) (actuals : Parts ActualTree) (fault : Fault) → s.call ≡ calls.Subprogram depth → actuals.fault ≡ Some fault
    → map_ok CallForm (unless (own_fault own place s) (unless actuals.fault (option_map_or (call_with s actuals.items) (callee_of s.call s.symbol) (Err (nothing_fits place))))) ≡ Err fault
other_told own place s depth actuals fault call there =
    let made : CallKind → Result CallTree Fault = λ k. option_map_or (call_with s actuals.items) (callee_of k s.symbol) (Err (nothing_fits place)) in
    ap (λ (o : Option Fault). map_ok CallForm (unless o (unless actuals.fault (made s.call)))) (not_own own place s depth call)
    ∙ ap (λ (o : Option Fault). map_ok CallForm (unless o (made s.call))) there
    ∙ ap (λ (k : CallKind). map_ok CallForm (unless (Some fault) (made k))) call

pub milliseconds_are_like_others : MillisecondsAreLikeOthers
milliseconds_are_like_others own place milliseconds other depth actuals fault name call there =
    told place milliseconds actuals fault name there ∙ sym (other_told own place other depth actuals fault call there)
