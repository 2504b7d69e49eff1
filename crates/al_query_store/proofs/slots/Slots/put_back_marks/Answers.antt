use Rattle.std.proofs.Common.{◌≡◌, ◌∙◌, sym, ap, subst, refl, ℕ, List, nat_eq, if◌then◌else◌}
use Rattle.std.specs.List.{list_any}
use Rattle.std.specs.Option.{option_map}
use Rattle.slab.specs.Slab.{Slab, get}
use Rattle.al_query_store.specs.Stored.{base}
use Rattle.al_query_store.specs.declared.slots.Held.{Held}
use Rattle.al_query_store.proofs.KeepLemmas.{all_changed, indexed-put_back, base_same, none_touched}
use Rattle.al_query_store.proofs.slots.Slots.put_back_marks.Goals as goal

pub invariant_of-self : goal.invariant_of-self
invariant_of-self g c =
    let old = c.self.inside.entries in
    let new = c.put_back_all.new.entries in
    let keys = c.self.inside.touched.items in
    let to = subst (λ (l : List ℕ). (k : ℕ) → get new k ≡ (if list_any (nat_eq k) l then option_map base (get old k) else get old k)) c.as_slice.ensures.value c.put_back_all.ensures in (
      indexed-put_back g.E.Logged.log old new c.self.inside.readers c.self.invariant.0 keys to,
      none_touched base old new keys c.self.invariant.1 base_same to (λ h. refl) c.clear.new.self.items,
    )

pub returns : goal.returns
returns g c k =
    let old = c.self.inside.entries in
    let new = c.put_back_all.new.entries in
    let keys = c.self.inside.touched.items in
    let to = subst (λ (l : List ℕ). (x : ℕ) → get new x ≡ (if list_any (nat_eq x) l then option_map base (get old x) else get old x)) c.as_slice.ensures.value c.put_back_all.ensures in
    all_changed base old new keys c.self.invariant.1 base_same to k ∙ ap (λ (s : Slab (Held g.row.E.Denot)). option_map base (get s k)) c.self.view_is
