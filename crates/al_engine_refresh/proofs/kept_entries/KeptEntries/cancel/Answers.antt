use Rattle.std.proofs.Common.{◌≡◌, ◌∙◌, sym, ap, subst, List, if◌then◌else◌}
use Rattle.al_base.specs.declared.unit_key.UnitKey.{UnitKey}
use Rattle.al_query.specs.Known.{has_unit}
use Rattle.al_engine_refresh.specs.Stored.{Stored}
use Rattle.al_query_store.specs.Keyed.{State, base_state, cancelled_state, state}
use Rattle.al_engine_refresh.specs.Moves.{Entries}
use Rattle.al_engine_refresh.proofs.QuietLemmas.{cancelled-all, cancelled-is-quiet}
use Rattle.al_engine_refresh.proofs.kept_entries.KeptEntries.cancel.Goals as goal

pub invariant_of-self : goal.invariant_of-self
invariant_of-self c u out =
    let store = c.self.inside.store in
    let moved = c.self.inside.moved.items in
    let ends : state c.cancel.new.self u ≡ base_state (cancelled_state (state store u)) =
    c.cancel.ensures u ∙ ap (λ (l : List UnitKey). base_state (if has_unit l u then cancelled_state (state store u) else state store u)) c.as_slice.ensures.value
    ∙ ap base_state (cancelled-all moved store c.self.invariant u) in
    subst (λ (s : State Stored). s ≡ cancelled_state s) (sym ends) (cancelled-is-quiet (state store u))

pub returns : goal.returns
returns c u =
    let store = c.self.inside.store in
    let moved = c.self.inside.moved.items in
    c.cancel.ensures u ∙ ap (λ (l : List UnitKey). base_state (if has_unit l u then cancelled_state (state store u) else state store u)) c.as_slice.ensures.value
    ∙ ap base_state (cancelled-all moved store c.self.invariant u)
    ∙ ap (λ (e : Entries). base_state (cancelled_state (state e u))) c.self.view_is
