use Rattle.std.proofs.Common.{◌≡◌, ◌||◌, ◌∙◌, ap, refl, List, ◌∷◌}
use Rattle.std.specs.List.{list_any}
use Rattle.al_query_store.specs.contracts.place.PlaceOrd.TheImpl.{cmp-value}
use Rattle.al_query_store.specs.declared.place.Place.{Place}
use Rattle.al_query_store.specs.Reads.{same_place}
use Rattle.al_query_store.proofs.PlaceLemmas.{inserted, one_moved}
use Rattle.al_query_store.proofs.questions.add_all.Goals as goal

pub loop-place-preserved : goal.loop-place-preserved
loop-place-preserved c p =
    let k = c.in-Some.place.now in
    let rest : c.loop-place.place-iterator ≡ k ∷ c.next.new.self = c.in-Some.ensures.steps in
    let more = inserted cmp-value.it (λ a b. refl) c.loop-place.set.keys c.insert.new.self.keys k p (c.in_ok-insert.ensures.updates.0 p) in
    c.loop-place.invariant p
    ∙ ap (λ (l : List Place). list_any (same_place p) c.loop-place.set.keys || list_any (same_place p) l) rest
    ∙ one_moved c.loop-place.set.keys c.insert.new.self.keys c.next.new.self k p more
