-- Cells of units in an ordered map.
use Rattle.std.proofs.Common.{◌≡◌, Bool, true, false, List, Option, Some, None, refl, sym, ◌∙◌, ap, subst, unwrap_or, is_some, if◌then◌else◌}
use Rattle.al_base.specs.declared.unit_key.UnitKey.{UnitKey}
use Rattle.al_base.specs.contracts.unit_key.UnitKeyOrd.TheImpl.{cmp-value}
use Rattle.al_view.specs.Symbols.{same_unit}
use Rattle.al_view.proofs.SymbolLemmas.{same_unit-one}
use Rattle.al_query_store.specs.Units.{at_unit}
use Rattle.al_query_store.proofs.UnitLemmas.{IsByName}
use Rattle.al_query_store.specs.declared.cell.Cell.{Cell}
use Rattle.al_query_store.specs.Keyed.{cell_at, empty, put}

pub by_name : IsByName cmp-value.it
by_name n m = (refl, refl, refl, refl, refl, refl, refl, refl, refl)

abbrev Changed : List (UnitKey × Cell) → List (UnitKey × Cell) → UnitKey → Cell → UnitKey → Type 0
Changed old new unit to u = cell_at new u ≡ (if same_unit unit u then put (at_unit old u) to else cell_at old u)

-- a unit without a cell
pub changed-none : (old new : List (UnitKey × Cell)) (unit : UnitKey) (to : Cell) (u : UnitKey) → new ≡ old → at_unit old unit ≡ None → Changed old new unit to u
changed-none old new unit to u same none = ap (λ (l : List (UnitKey × Cell)). cell_at l u) same ∙ by (same_unit unit u) refl
  where
    by : (b : Bool) → same_unit unit u ≡ b → cell_at old u ≡ (if b then put (at_unit old u) to else cell_at old u)
    by false e = refl
    by true e =
        let here : at_unit old u ≡ None = subst (λ (v : UnitKey). at_unit old v ≡ None) (same_unit-one unit u e) none in
        ap (λ (o : Option Cell). unwrap_or o empty) here ∙ sym (ap (λ (o : Option Cell). put o to) here)

-- a unit with one
pub changed-some : (old new : List (UnitKey × Cell)) (unit : UnitKey) (to c : Cell) (u : UnitKey) → at_unit old unit ≡ Some c → at_unit new u ≡ (if same_unit unit u then Some to else at_unit old u) → Changed old new unit to u
changed-some old new unit to c u there set = ap (λ (o : Option Cell). unwrap_or o empty) set ∙ by (same_unit unit u) refl
  where
    by : (b : Bool) → same_unit unit u ≡ b → unwrap_or (if b then Some to else at_unit old u) empty ≡ (if b then put (at_unit old u) to else cell_at old u)
    by false e = refl
    by true e =
        let here : at_unit old u ≡ Some c = subst (λ (v : UnitKey). at_unit old v ≡ Some c) (same_unit-one unit u e) there in
        sym (ap (λ (o : Option Cell). put o to) here)

-- one taken away
pub taken-away : (old new : List (UnitKey × Cell)) (unit u : UnitKey) → at_unit new u ≡ (if same_unit unit u then None else at_unit old u) → cell_at new u ≡ (if same_unit unit u then empty else cell_at old u)
taken-away old new unit u set = ap (λ (o : Option Cell). unwrap_or o empty) set ∙ by (same_unit unit u)
  where
    by : (b : Bool) → unwrap_or (if b then None else at_unit old u) empty ≡ (if b then empty else cell_at old u)
    by true = refl
    by false = refl

-- an empty one for a unit without
pub added-empty : (old new : List (UnitKey × Cell)) (unit u : UnitKey) → at_unit old unit ≡ None → at_unit new u ≡ (if same_unit unit u then Some empty else at_unit old u) → cell_at new u ≡ cell_at old u
added-empty old new unit u none set = ap (λ (o : Option Cell). unwrap_or o empty) set ∙ by (same_unit unit u) refl
  where
    by : (b : Bool) → same_unit unit u ≡ b → unwrap_or (if b then Some empty else at_unit old u) empty ≡ cell_at old u
    by false e = refl
    by true e =
        let here : at_unit old u ≡ None = subst (λ (v : UnitKey). at_unit old v ≡ None) (same_unit-one unit u e) none in
        sym (ap (λ (o : Option Cell). unwrap_or o empty) here)

-- there is no cell where there isn't one
pub no-cell : (o : Option Cell) → is_some o ≡ false → o ≡ None
no-cell None e = refl
no-cell (Some c) e = absurd (cc)
