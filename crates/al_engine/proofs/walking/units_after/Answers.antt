use Rattle.std.proofs.Common.{◌≡◌, ◌∙◌, ◌+◌, ◌-◌, ◌≤◌, ◌++◌, ◌∷◌, ◌||◌, ℕ, Bool, true, false, List, [], Some, None, cond, length, length-drop, take, drop, get_or, drop-cons, sym, ap, add-one, arith, position}
use Rattle.std.specs.List.{position_from}
use Rattle.std.proofs.lemmas.Bool.{true≢false}
use Rattle.std.proofs.lemmas.List.{take_all, take-append-drop}
use Rattle.std.proofs.lemmas.List.Quantifiers.{position-Some}
use Rattle.std.proofs.lemmas.Iterator.Adapters.{position_from-zero}
use Rattle.al_base.specs.declared.unit_key.UnitKey.{UnitKey}
use Rattle.al_view.specs.Symbols.{same_unit}
use Rattle.al_view.proofs.SymbolLemmas.{same_unit-one}
use Rattle.al_query.specs.Known.{has_unit}
use Rattle.al_engine.proofs.walking.units_after.Goals as goal

-- the unit at its place, and the units after it
there : (order : List UnitKey) (unit : UnitKey) (i : ℕ) → position (same_unit unit) order ≡ Some i → order ≡ take i order ++ unit ∷ take (length order - (i + 1)) (drop (i + 1) order)
there order unit i is =
    let at = position-Some (same_unit unit) order i unit is in
    let one : unit ≡ get_or order i unit = same_unit-one unit (get_or order i unit) at.1 in
    let from : drop i order ≡ get_or order i unit ∷ drop (i + 1) order = rw add-one (drop-cons order i unit at.0) in
    let long : length (drop (i + 1) order) ≤ length order - (i + 1) = omega (arith, length-drop (i + 1) order) in
    sym (take-append-drop i order)
    ∙ ap (λ (us : List UnitKey). take i order ++ us)
    (from ∙ ap (λ (x : UnitKey). x ∷ drop (i + 1) order) (sym one) ∙ ap (λ (us : List UnitKey). unit ∷ us) (sym (take_all (length order - (i + 1)) (drop (i + 1) order) long)))

-- a unit that has no place isn't there
absent : (unit : UnitKey) (i : ℕ) (us : List UnitKey) → position_from (same_unit unit) i us ≡ None → has_unit us unit ≡ true → ⊥
absent unit i [] k h = true≢false (sym h)
absent unit i (v ∷ us) k h = by (same_unit unit v) k h (absent unit (i + 1) us)
  where
    by : (b : Bool) → cond b (Some i) (position_from (same_unit unit) (i + 1) us) ≡ None → (b || has_unit us unit) ≡ true → (position_from (same_unit unit) (i + 1) us ≡ None → has_unit us unit ≡ true → ⊥) → ⊥
    by true k h later = absurd (cc)
    by false k h later = later k h

pub returns-in-Some : goal.returns-in-Some
returns-in-Some c h =
    let order = c.args.order.now in
    let i = c.in-Some.place in
    (take i order, there order c.args.unit.now i (sym c.place_of.ensures.value ∙ c.in-Some.is))

pub returns-in-None : goal.returns-in-None
returns-in-None c h =
    let order = c.args.order.now in
    let test = same_unit c.args.unit.now in
    absurd (absent c.args.unit.now 0 order (sym (position_from-zero test order) ∙ sym c.place_of.ensures.value ∙ c.in-None.is) h)
