-- The units on which others depend directly.
use Rattle.std.proofs.Common.{◌≡◌, Bool, true, false, List, Option, Some, None, refl, sym, subst, ◌∙◌, ap, if◌then◌else◌}
use Rattle.std.specs.Option.{is_some}
use Rattle.al_base.specs.declared.unit_key.UnitKey.{UnitKey}
use Rattle.al_view.specs.Symbols.{same_unit}
use Rattle.al_view.proofs.SymbolLemmas.{same_unit-self}

-- adding a unit removes none
pub stays : {X : Type 0} (old new : UnitKey → Option X) (key : UnitKey) (x : X) → ((u : UnitKey) → new u ≡ (if same_unit key u then Some x else old u)) → (u : UnitKey) → is_some (old u) ≡ true → is_some (new u) ≡ true
stays old new key x set u is = ap is_some (set u) ∙ by (same_unit key u)
  where
    by : (b : Bool) → is_some (if b then Some x else old u) ≡ true
    by true = refl
    by false = is

pub is-added : {X : Type 0} (old new : UnitKey → Option X) (key base : UnitKey) (x : X) → ((u : UnitKey) → new u ≡ (if same_unit key u then Some x else old u)) → key ≡ base → is_some (new base) ≡ true
is-added {X} old new key base x set is =
    subst (λ (b : UnitKey). is_some (new b) ≡ true) is
    (ap is_some (set key) ∙ ap (λ (b : Bool). is_some (if b then Some x else old key)) (same_unit-self key))
