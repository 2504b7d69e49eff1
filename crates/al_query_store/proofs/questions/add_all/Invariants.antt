use Rattle.std.proofs.Common.{◌≡◌, ◌||◌}
use Rattle.std.specs.List.{list_any}
use Rattle.al_query_store.specs.declared.place.Place.{Place}
use Rattle.al_query_store.specs.Reads.{same_place}
use Rattle.al_query_store.proofs.questions.add_all.Given as goal

abbrev pub invariant-loop-place : goal.invariant-loop-place
invariant-loop-place l = (p : Place) → (list_any (same_place p) l.initial.set.keys || list_any (same_place p) l.places.keys) ≡ (list_any (same_place p) l.set.keys || list_any (same_place p) l.place-iterator)
