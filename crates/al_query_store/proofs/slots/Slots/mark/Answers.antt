use Rattle.std.proofs.Common.{◌≡◌, sym, subst, List, true}
use Rattle.std.specs.List.{list_any}
use Rattle.std.specs.List.Sorted.{IsStrictlySortedBy}
use Rattle.slab.specs.Slab.{Slab}
use Rattle.al_query.specs.Queries.{unit_of}
use Rattle.al_query.specs.declared.query.Query.{Query}
use Rattle.al_query_store.specs.declared.place.Place.{Place}
use Rattle.al_query_store.specs.Reads.{place_cmp, reads, same_place}
use Rattle.al_query_store.specs.declared.slots.Held.{Held}
use Rattle.al_query_store.specs.Marking.{IsMarked, IsSized, answer_at, is_of}
use Rattle.al_query_store.specs.Counting.{IsCount}
use Rattle.al_query_store.proofs.CountLemmas.{sorted_distinct}
use Rattle.al_query_store.proofs.MarkLemmas.{all_marked, whole_places}
use Rattle.al_query_store.proofs.slots.Slots.mark.Goals as goal

pub returns-clause-counted : goal.returns-clause-counted
returns-clause-counted g c =
    let log = g.E.Logged.log in
    let u = c.args.unit.now in
    let items = sym c.as_slice.ensures.value in
    let found = subst (λ (l : List Place). (q : Query) (p : Place) → unit_of q ≡ u → reads c.self.inside.readers q p ≡ true → list_any (same_place p) l ≡ true) items c.in_ok-places.ensures.found in
    subst (λ (s : Slab (Held g.row.E.Denot)). IsCount same_place (λ p. is_of u (answer_at log s p)) c.in_ok-compared.compared) c.self.view_is
    (record {
      items = c.as_slice.result.now;
      apart = sorted_distinct c.as_slice.result.now (subst (λ (l : List Place). IsStrictlySortedBy place_cmp l) items c.in_ok-places.ensures.apart);
      whole = whole_places log c.self.inside.entries c.self.inside.readers u c.as_slice.result.now c.self.invariant.0 found;
      counted = c.in_ok-compared.ensures.counted;
    })

pub returns-clause-marked : goal.returns-clause-marked
returns-clause-marked g c =
    let log = g.E.Logged.log in
    let t = g.A.Answers.table c.args.asked.now in
    let u = c.args.unit.now in
    let items = sym c.as_slice.ensures.value in
    let found = subst (λ (l : List Place). (q : Query) (p : Place) → unit_of q ≡ u → reads c.self.inside.readers q p ≡ true → list_any (same_place p) l ≡ true) items c.in_ok-places.ensures.found in
    subst (λ (s : Slab (Held g.row.E.Denot)). IsMarked log t (λ p. is_of u (answer_at log s p)) s c.mark_places.new.entries) c.self.view_is
    (all_marked log c.self.inside.entries c.self.inside.readers u c.as_slice.result.now c.self.invariant.0 found t c.mark_places.new.entries c.in_ok-compared.ensures.marked)

pub returns-in_err-places-clause-sized : goal.returns-in_err-places-clause-sized
returns-in_err-places-clause-sized g c = subst (λ (s : Slab (Held g.row.E.Denot)). IsSized g.E.Logged.log s) c.self.view_is c.self.invariant.0.marked
