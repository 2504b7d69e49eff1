-- Judged things by other views of them, and in contexts that are made.
use Rattle.std.proofs.Common.{◌≡◌, List, Option, IfOk, Result, Ok, Err, refl, subst}
use Rattle.al_overload.specs.declared.everywhere.Predefined.{Predefined}
use Rattle.al_base_fault.specs.Judging.{both, map_ok}
use Rattle.al_base_fault.specs.declared.fault.Fault.{Fault}
use Rattle.al_overload_nodes.specs.Ranges.{bounds_checked}
use Rattle.al_overload_nodes.specs.RangesSeen.{pair_model}
use Rattle.al_overload_nodes.specs.declared.range.Pair.{Pair}
use Rattle.al_overload.specs.declared.context.Context.{Context}
use Rattle.al_overload.specs.Terms.{TermTree}
use Rattle.al_view.specs.declared.symbol.Symbol.{Symbol}
use Rattle.al_view.specs.declared.types.TypeView.{TypeView}

-- two of them, the second by another view
pub seen_both : {A B C : Type 0} (see : B → C) (a : Result A Fault) (b : Result B Fault) → map_ok (λ (x : A × B). (x.0, see x.1)) (both a b) ≡ both a (map_ok see b)
seen_both see (Ok a) (Ok b) = refl
seen_both see (Ok a) (Err f) = refl
seen_both see (Err f) (Ok b) = refl
seen_both see (Err f) (Err k) = refl

-- two bounds in a context that is another one
pub checked_in : {E : Type 0} (p : Predefined) (own : Option Symbol) (types : List TypeView) (low high : TermTree) (r : Result (Result Pair Fault) E) (a b : Context) → a ≡ b → IfOk r (λ (pair : Result Pair Fault). map_ok pair_model pair ≡ bounds_checked p own a types low high) → IfOk r (λ (pair : Result Pair Fault). map_ok pair_model pair ≡ bounds_checked p own b types low high)
checked_in p own types low high r a b same h =
    subst (λ (x : Context). IfOk r (λ (pair : Result Pair Fault). map_ok pair_model pair ≡ bounds_checked p own x types low high)) same h
