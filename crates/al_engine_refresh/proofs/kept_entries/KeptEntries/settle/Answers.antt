use Rattle.std.proofs.Common.{◌≡◌, ◌∙◌, sym, ap, subst, List, if◌then◌else◌}
use Rattle.al_base.specs.declared.unit_key.UnitKey.{UnitKey}
use Rattle.al_query.specs.Known.{has_unit}
use Rattle.al_engine_refresh.specs.Stored.{Stored}
use Rattle.al_query_store.specs.Keyed.{State, cancelled_state, kept_state, settled_state, state}
use Rattle.al_engine_refresh.specs.Moves.{Entries}
use Rattle.al_engine_refresh.proofs.QuietLemmas.{settled-all, settled-is-quiet}
use Rattle.al_engine_refresh.proofs.kept_entries.KeptEntries.settle.Goals as goal

pub invariant_of-self : goal.invariant_of-self
invariant_of-self c u out =
    let store = c.self.inside.store in
    let moved = c.self.inside.moved.items in
    let ends : state c.settle.new.self u ≡ kept_state (settled_state (state store u)) =
    c.settle.ensures u ∙ ap (λ (l : List UnitKey). kept_state (if has_unit l u then settled_state (state store u) else state store u)) c.as_slice.ensures.value
    ∙ ap kept_state (settled-all moved store c.self.invariant u) in
    subst (λ (s : State Stored). s ≡ cancelled_state s) (sym ends) (settled-is-quiet (state store u))

pub returns : goal.returns
returns c u =
    let store = c.self.inside.store in
    let moved = c.self.inside.moved.items in
    c.settle.ensures u ∙ ap (λ (l : List UnitKey). kept_state (if has_unit l u then settled_state (state store u) else state store u)) c.as_slice.ensures.value
    ∙ ap kept_state (settled-all moved store c.self.invariant u)
    ∙ ap (λ (e : Entries). kept_state (settled_state (state e u))) c.self.view_is
