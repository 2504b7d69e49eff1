-- One unit of an order is handled: what holds of the rest.
use Rattle.std.proofs.Common.{◌≡◌, ◌++◌, ◌||◌, ◌∙◌, Bool, true, false, List, [], ◌∷◌, refl, sym, subst, ap}
use Rattle.std.specs.List.{AllByRecursion, IsDistinct}
use Rattle.std.proofs.lemmas.Bool.{true≢false}
use Rattle.std.proofs.lemmas.List.Folds.{list_any-append}
use Rattle.al_base.specs.declared.unit_key.UnitKey.{UnitKey}
use Rattle.al_view.specs.Symbols.{same_unit}
use Rattle.al_view.proofs.SymbolLemmas.{same_unit-one}
use Rattle.al_query.specs.Known.{has_unit}
use Rattle.al_query_store.specs.Keyed.{base_state, now_at, state}
use Rattle.al_engine_refresh.specs.Moves.{Entries, has_moved}
use Rattle.al_engine_refresh.proofs.Comparing.{moved-same}
use Rattle.al_engine_refresh.proofs.Following.{now-same, turned-unit}

-- a unit of the rest is another one
pub rest-apart : (unit : UnitKey) (rest : List UnitKey) → IsDistinct same_unit (unit ∷ rest) → (u : UnitKey) → has_unit rest u ≡ true → same_unit unit u ≡ false
unfolding IsDistinct
rest-apart unit rest once u h = among rest once.0 h
  where
    among : (us : List UnitKey) → AllByRecursion (λ v. same_unit unit v ≡ false) us → has_unit us u ≡ true → same_unit unit u ≡ false
    among [] a m = absurd (true≢false (sym m))
    among (v ∷ us) a m = by (same_unit u v) refl m (among us a.1)
      where
        by : (b : Bool) → same_unit u v ≡ b → (b || has_unit us u) ≡ true → (has_unit us u ≡ true → same_unit unit u ≡ false) → same_unit unit u ≡ false
        by true e k later = subst (λ (x : UnitKey). same_unit unit x ≡ false) (sym (same_unit-one u v e)) a.0
        by false e k later = later k

module _ (unit : UnitKey) (old new : Entries) (others : (u : UnitKey) → same_unit unit u ≡ false → base_state (state new u) ≡ base_state (state old u)) where
  -- the rest hasn't moved still
  pub moved-left : (u : UnitKey) → same_unit unit u ≡ false → has_moved new u ≡ has_moved old u
  moved-left u e = moved-same (state new u) (state old u) (others u e)

  -- and has the entries of now that it had
  pub now-left : (u : UnitKey) → same_unit unit u ≡ false → now_at new u ≡ now_at old u
  now-left u e = now-same (state new u) (state old u) (others u e)

-- a list with each unit once, from one of them on
pub distinct-from : (before : List UnitKey) (unit : UnitKey) (rest : List UnitKey) → IsDistinct same_unit (before ++ unit ∷ rest) → (has_unit before unit ≡ false) × IsDistinct same_unit (unit ∷ rest)
unfolding IsDistinct
distinct-from [] unit rest once = (refl, once)
distinct-from (v ∷ before) unit rest once =
    let later = distinct-from before unit rest once.1 in
    (ap (λ (b : Bool). b || has_unit before unit) (turned-unit v unit false (met before once.0)) ∙ later.0, later.1)
  where
    met : (us : List UnitKey) → AllByRecursion (λ w. same_unit v w ≡ false) (us ++ unit ∷ rest) → same_unit v unit ≡ false
    met [] a = a.0
    met (w ∷ us) a = met us a.1

-- whether a list has a unit, by two parts of it
pub in-parts : (order before after : List UnitKey) → order ≡ before ++ after → (u : UnitKey) → has_unit order u ≡ (has_unit before u || has_unit after u)
in-parts order before after is u = ap (λ (us : List UnitKey). has_unit us u) is ∙ list_any-append (same_unit u) before after

-- what isn't in a list isn't in its end
pub not-after : (before after : List UnitKey) (u : UnitKey) → has_unit (before ++ after) u ≡ false → has_unit after u ≡ false
not-after [] after u h = h
not-after (v ∷ before) after u h = by (same_unit u v) h (not-after before after u)
  where
    by : (b : Bool) → (b || has_unit (before ++ after) u) ≡ false → (has_unit (before ++ after) u ≡ false → has_unit after u ≡ false) → has_unit after u ≡ false
    by true k later = absurd (true≢false k)
    by false k later = later k

-- who isn't in an order is none of its units
pub not-unit : (before rest : List UnitKey) (unit u : UnitKey) → (has_unit before u || has_unit (unit ∷ rest) u) ≡ false → same_unit unit u ≡ false
not-unit before rest unit u h = turned-unit u unit false (by (has_unit before u) (same_unit u unit) refl h)
  where
    by : (a b : Bool) → same_unit u unit ≡ b → (a || (b || has_unit rest u)) ≡ false → same_unit u unit ≡ false
    by a false e k = e
    by true true e k = absurd (true≢false k)
    by false true e k = absurd (true≢false k)

pub in-rest : (unit : UnitKey) (rest : List UnitKey) (u : UnitKey) → has_unit rest u ≡ true → has_unit (unit ∷ rest) u ≡ true
in-rest unit rest u h = ap (λ (b : Bool). same_unit u unit || b) h ∙ or_true (same_unit u unit)
  where
    or_true : (b : Bool) → (b || true) ≡ true
    or_true true = refl
    or_true false = refl
