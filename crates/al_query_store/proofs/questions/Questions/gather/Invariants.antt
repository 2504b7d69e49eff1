use Rattle.std.proofs.Common.{◌≡◌, ◌||◌, true}
use Rattle.std.specs.List.{list_any}
use Rattle.al_query_store.specs.declared.place.Place.{Place}
use Rattle.al_query_store.specs.Reads.{any_has, same_place}
use Rattle.al_query_store.proofs.questions.Questions.gather.Given as goal

abbrev pub invariant-loop-places : goal.invariant-loop-places
invariant-loop-places l = (p : Place) → any_has l.self p ≡ true → (list_any (same_place p) l.set.keys || any_has l.places-iterator p) ≡ true
