use Rattle.std.proofs.Common.{◌≡◌, ◌&&◌, ◌||◌, nat_eq}
use Rattle.al_query.specs.declared.query.Query.{Query}
use Rattle.al_query_store.specs.declared.place.Place.{Place}
use Rattle.al_query_store.specs.Reads.{reads}
use Rattle.al_query_store.proofs.LogLemmas.{in_below}
use Rattle.al_query_store.proofs.logs.enter.Given as goal

abbrev pub invariant-loop-i : goal.invariant-loop-i
invariant-loop-i l = (q : Query) (p : Place) → reads l.readers q p ≡ (reads l.initial.readers q p || (nat_eq l.key p.entry && in_below l.log q l.i p.at))
