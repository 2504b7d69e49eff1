-- Units that didn't move are left as they are.
use Rattle.std.proofs.Common.{◌≡◌, inl, inr, Bool, true, false, ◌||◌, List, [], ◌∷◌, ◌++◌, refl, sym, ◌∙◌, ap, subst, if◌then◌else◌}
use Rattle.std.specs.List.{list_any}
use Rattle.std.proofs.lemmas.List.Folds.{list_any-append}
use Rattle.al_base.specs.declared.unit_key.UnitKey.{UnitKey}
use Rattle.al_view.specs.Symbols.{same_unit}
use Rattle.al_view.proofs.SymbolLemmas.{same_unit-one, same_unit-self}
use Rattle.al_query_outcome.proofs.Names.{tested}
use Rattle.al_query.specs.Known.{has_unit}
use Rattle.al_engine_refresh.specs.Stored.{Stored}
use Rattle.al_query_store.specs.Keyed.{Changes, State, base_state, cancelled_state, kept_state, settled_state, state}
use Rattle.al_engine_refresh.specs.Moves.{AreQuietBut, Entries}

alike : (a b : UnitKey) → same_unit a b ≡ same_unit b a
alike a b =
    elim (tested (same_unit a b)) as (λ _. same_unit a b ≡ same_unit b a) [
      | inl h ↦ h ∙ sym (subst (λ (x : UnitKey). same_unit x a ≡ true) (same_unit-one a b h) (same_unit-self a))
      | inr h ↦
          elim (tested (same_unit b a)) as (λ _. same_unit a b ≡ same_unit b a) [
            | inl k ↦ let t = subst (λ (x : UnitKey). same_unit x b ≡ true) (same_unit-one b a k) (same_unit-self b) in absurd (cc)
            | inr k ↦ h ∙ sym k
          ]
    ]

or_no : (a b : Bool) → (a || b) ≡ false → (a ≡ false) × (b ≡ false)
or_no false false h = (refl, refl)
or_no false true h = absurd (cc)
or_no true b h = absurd (cc)

-- a unit is noted, and then changed
pub noted-changed : (f : State Stored → State Stored) (moved more : List UnitKey) (unit : UnitKey) (old new : Entries) → more ≡ moved ++ unit ∷ [] → AreQuietBut moved old → Changes f unit old new → AreQuietBut more new
noted-changed f moved more unit old new is quiet changes u out =
    let parts = or_no (has_unit moved u) (list_any (same_unit u) (unit ∷ [])) (sym (ap (λ (l : List UnitKey). has_unit l u) is ∙ list_any-append (same_unit u) moved (unit ∷ [])) ∙ out) in
    let apart : same_unit unit u ≡ false = alike unit u ∙ (or_no (same_unit u unit) false parts.1).0 in
    let same : state new u ≡ state old u = changes u ∙ ap (λ (b : Bool). if b then f (state old u) else state old u) apart in
    subst (λ (s : State Stored). s ≡ cancelled_state s) (sym same) (quiet u parts.0)

-- what is quiet is settled, or cancelled, as it is
pub settled-quiet : (s : State Stored) → s ≡ cancelled_state s → settled_state s ≡ s
settled-quiet s q = ap settled_state q ∙ sym q

pub settled-all : (moved : List UnitKey) (store : Entries) → AreQuietBut moved store → (u : UnitKey) → (if has_unit moved u then settled_state (state store u) else state store u) ≡ settled_state (state store u)
settled-all moved store quiet u = by (has_unit moved u) refl
  where
    by : (b : Bool) → has_unit moved u ≡ b → (if b then settled_state (state store u) else state store u) ≡ settled_state (state store u)
    by true e = refl
    by false e = sym (settled-quiet (state store u) (quiet u e))

pub cancelled-all : (moved : List UnitKey) (store : Entries) → AreQuietBut moved store → (u : UnitKey) → (if has_unit moved u then cancelled_state (state store u) else state store u) ≡ cancelled_state (state store u)
cancelled-all moved store quiet u = by (has_unit moved u) refl
  where
    by : (b : Bool) → has_unit moved u ≡ b → (if b then cancelled_state (state store u) else state store u) ≡ cancelled_state (state store u)
    by true e = refl
    by false e = quiet u e

abbrev with_leaves : State Stored → Bool → State Stored
with_leaves s b = record { settled = s.settled; made = s.made; was_reached = s.was_reached; is_reached = s.is_reached; leaves = b }

-- after a build's end all is quiet
pub settled-is-quiet : (s : State Stored) → kept_state (settled_state s) ≡ cancelled_state (kept_state (settled_state s))
settled-is-quiet s = by s.leaves
  where
    by : (b : Bool) → kept_state (settled_state (with_leaves s b)) ≡ cancelled_state (kept_state (settled_state (with_leaves s b)))
    by true = refl
    by false = refl

pub cancelled-is-quiet : (s : State Stored) → base_state (cancelled_state s) ≡ cancelled_state (base_state (cancelled_state s))
cancelled-is-quiet s = refl
