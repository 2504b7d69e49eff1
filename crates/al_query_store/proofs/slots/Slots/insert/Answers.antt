use Rattle.std.proofs.Common.{◌≡◌, ◌||◌, ◌&&◌, false, length, None, Some, nat_eq, ℕ, refl, sym, ap, ◌∙◌}
use Rattle.std.proofs.lemmas.List.{length-replicate}
use Rattle.slab.specs.Slab.{Slab, get, Updates}
use Rattle.al_query_store.specs.Reads.{reads}
use Rattle.al_query_store.specs.declared.slots.Held.{Held}
use Rattle.al_query_store.specs.Marked.{Marked}
use Rattle.al_query_store.specs.Stored.{AreSized, in_log}
use Rattle.al_query_store.proofs.LogLemmas.{Log}
use Rattle.al_query_store.proofs.SlotLemmas.{indexed-insert, indexed-values, untouched-insert, untouched-values}
use Rattle.al_query_store.proofs.slots.Slots.insert.Goals as goal

pub invariant_of-self-2 : goal.invariant_of-self-2
invariant_of-self-2 g c =
    let log = g.E.Logged.log in
    let old = c.self.inside.entries in
    let k = c.vacant_key-key.result in
    let h : Held g.row.E.Denot = record { entry = c.args.entry; marks = c.in_ok-marks.marks; is_settled = false } in
    let kept = c.in_ok-reserve.ensures.rest_kept in
    let same : c.insert_reserved.result ≡ k = c.insert_reserved.ensures.key ∙ sym c.vacant_key-key.ensures.value in
    let none : get old k ≡ None = ap (λ (s : Slab (Held g.row.E.Denot)). get s k) (sym kept) ∙ c.vacant_key-key.ensures.vacant in
    let u = c.insert_reserved.ensures.updates in
    let updates : Updates old c.insert_reserved.new.self k (Some h) = record {
      changed = ap (λ (x : ℕ). get c.insert_reserved.new.self x) (sym same) ∙ u.changed;
      others = λ o d. u.others o (λ e. d (e ∙ same)) ∙ ap (λ (s : Slab (Held g.row.E.Denot)). get s o) kept;
    } in
    let count : c.len.result ≡ length (log h.entry) = c.len.ensures ∙ ap length c.log.ensures in
    let sized : AreSized (log h.entry) h.marks = record {
      last = ap (λ (m : Marked). length m.last) c.in_ok-marks.ensures ∙ length-replicate c.len.result false ∙ count;
      now = ap (λ (m : Marked). length m.now) c.in_ok-marks.ensures ∙ length-replicate c.len.result false ∙ count;
    } in (
      indexed-insert log old c.insert_reserved.new.self c.self.inside.readers c.enter.new.readers k h c.self.invariant.0 none updates sized
          (λ q p. c.in_ok-enter.ensures.ok q p ∙ ap (λ (l : Log). reads c.self.inside.readers q p || (nat_eq k p.entry && in_log l q p.at)) c.log-2.ensures),
      untouched-insert old c.insert_reserved.new.self c.self.inside.touched.items k h (ap (λ (m : Marked). m.now) c.in_ok-marks.ensures ∙ sym (ap (λ (m : Marked). m.last) c.in_ok-marks.ensures)) updates c.self.invariant.1,
    )

pub invariant_of-self : goal.invariant_of-self
invariant_of-self g c =
    let same = λ (k : ℕ). ap (λ (s : Slab (Held g.row.E.Denot)). get s k) c.reserve.ensures.rest_kept in (
      indexed-values c.self.inside.entries c.reserve.new.self same g.E.Logged.log c.self.inside.readers c.self.inside.readers (λ q p. refl) c.self.invariant.0,
      untouched-values c.self.inside.entries c.reserve.new.self same c.self.inside.touched.items c.self.invariant.1,
    )

pub invariant_of-self-in_err-enter : goal.invariant_of-self-in_err-enter
invariant_of-self-in_err-enter g c =
    let same = λ (k : ℕ). ap (λ (s : Slab (Held g.row.E.Denot)). get s k) c.reserve.ensures.rest_kept in (
      indexed-values c.self.inside.entries c.reserve.new.self same g.E.Logged.log c.self.inside.readers c.enter.new.readers c.in_err-enter.ensures.err c.self.invariant.0,
      untouched-values c.self.inside.entries c.reserve.new.self same c.self.inside.touched.items c.self.invariant.1,
    )
