-- The reads law of the entries, once a build is settled or cancelled.
use Rattle.std.proofs.Common.{◌≡◌, ◌∙◌, ℕ, Bool, true, false, not, List, sym, ap, subst, refl, Option, Some, None, Result, Ok, Err, IfOk, OnOk, if◌then◌else◌}
use Rattle.std.specs.Option.{option_map}
use Rattle.al_base.specs.declared.unit_key.UnitKey.{UnitKey}
use Rattle.al_query_store.specs.Stored.{base}
use Rattle.al_query_store.specs.declared.slots.Held.{Held}
use Rattle.al_query_store.specs.Keyed.{State, entry_of, kept_state, settled_at, settled_state, state}
use Rattle.al_unit_graph.specs.Headers.{Header, Library}
use Rattle.al_engine_refresh.specs.EntryLaw.{AllKeepLaw, KeepsLaw, TextMeaning}
use Rattle.al_engine_refresh.specs.Stored.{Stored}
use Rattle.al_engine_refresh.specs.Moves.{Entries, left_by_last}
use Rattle.al_engine_refresh.specs.Staying.{is_there, or_else, staying}
use Rattle.al_engine.specs.Rechecks.{will_be}
use Rattle.al_engine.specs.UnitCache.{Kept}
use Rattle.al_engine.proofs.ReadyLemmas.{entry-held}

-- a Boolean that is true isn't false
pub clash : (b : Bool) → b ≡ true → not b ≡ true → ⊥
clash true is other = absurd (cc)
clash false is other = absurd (cc)

pub settled-is : (old new : Entries) → ((u : UnitKey) → state new u ≡ kept_state (settled_state (state old u))) → (u : UnitKey) → settled_at new u ≡ will_be old u
settled-is old new ends u = ap (λ (s : State Stored). entry_of s.settled) (ends u) ∙ entry-held (settled_state (state old u)).settled

entry-base : (o : Option (Held Stored)) → entry_of (option_map base o) ≡ entry_of o
entry-base None = refl
entry-base (Some h) = refl

pub cancelled-is : (old new : Entries) → ((u : UnitKey) → state new u ≡ left_by_last (state old u)) → (u : UnitKey) → settled_at new u ≡ settled_at old u
cancelled-is old new ends u = ap (λ (s : State Stored). entry_of s.settled) (ends u) ∙ entry-base (state old u).settled

-- what holds of the entries of a value holds of those of an equal one
pub said-of : {C : Type 0} (P : Entries → Type 0) (a b : Kept C) → a ≡ b → P b.store → P a.store
said-of {C} P a b e h = subst (λ (k : Kept C). P k.store) (sym e) h

-- what follows from the result of a call holds if the call gives a result
pub on-ok : {R E Q : Type 0} (r : Result R E) (P : R → Type 0) → IfOk r P → ((x : R) → P x → Q) → OnOk r Q
on-ok (Ok x) P h f = f x h
on-ok (Err e) P h f = tt

-- if the entries of before keep the law and those of now do, so do those that there will be
pub will-keep : (meaning : TextMeaning) (header : List ℕ → Header) (lib : Library) (old made : UnitKey → Option Stored) (new : Entries) → AllKeepLaw meaning header old → AllKeepLaw meaning header made → ((u : UnitKey) → will_be new u ≡ staying lib old made u)
    → AllKeepLaw meaning header (will_be new)
will-keep meaning header lib old made new before now stays u e is = by (made u) refl (is_there lib u) (sym (stays u) ∙ is)
  where
    by : (m : Option Stored) → made u ≡ m → (there : Bool) → or_else m (if there then old u else None) ≡ Some e → KeepsLaw meaning header u e
    by (Some x) k there h = now u e (k ∙ h)
    by None k true h = before u e h
    by None k false h = absurd (cc)
