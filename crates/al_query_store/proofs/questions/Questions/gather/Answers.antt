use Rattle.std.proofs.Common.{◌≡◌, ◌||◌, ◌∙◌, sym, ap, List, ◌∷◌}
use Rattle.std.specs.List.{list_any}
use Rattle.std.specs.BTreeSet.{BTreeSet}
use Rattle.al_query.specs.declared.query.Query.{Query}
use Rattle.al_query_store.specs.declared.place.Place.{Place}
use Rattle.al_query_store.specs.Reads.{any_has, same_place}
use Rattle.al_query_store.proofs.PlaceLemmas.{all_moved}
use Rattle.al_query_store.proofs.questions.Questions.gather.Goals as goal

pub loop-places-preserved : goal.loop-places-preserved
loop-places-preserved c p h =
    let e : Query × BTreeSet Place = (c.in-Some.field-0-0.now, c.in-Some.places.now) in
    let rest : c.loop-places.places-iterator ≡ e ∷ c.next.new.self = c.in-Some.ensures.steps in
    let step : (list_any (same_place p) c.loop-places.set.keys || any_has (e ∷ c.next.new.self) p) ≡ (list_any (same_place p) c.add_all.new.set.keys || any_has c.next.new.self p) =
    all_moved c.loop-places.set.keys c.add_all.new.set.keys c.in-Some.places.now.keys (any_has c.next.new.self p) p (c.in_ok-add_all.ensures p) in
    sym step
    ∙ ap (λ (l : List (Query × BTreeSet Place)). list_any (same_place p) c.loop-places.set.keys || any_has l p) (sym rest)
    ∙ c.loop-places.invariant p h
