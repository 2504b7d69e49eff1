-- Whether an index leads from a question to a place.
use Rattle.std.specs.Prelude.{Bool, ◌&&◌, List, [], unwrap_or, nat_eq}
use Rattle.std.specs.Ordering.{nat_cmp, ordering_then}
use Rattle.std.specs.declared.cmp.Ordering.{Ordering}
use Rattle.std.specs.BTreeSet.{BTreeSet}
use Rattle.std.specs.List.{list_any}
use Rattle.std.specs.Map.{lookup}
use Rattle.std.specs.Option.{option_map_or}
use Rattle.al_base.specs.declared.unit_key.UnitKey.{UnitKey}
use Rattle.al_view.specs.Symbols.{same_unit}
use Rattle.al_query.specs.Queries.{same_query, unit_of}
use Rattle.al_query.specs.declared.query.Query.{Query}
use Rattle.al_query_store.specs.declared.place.Place.{Place}

abbrev pub same_place : Place → Place → Bool
same_place a b = nat_eq a.entry b.entry && nat_eq a.at b.at

-- places are ordered by entries, and of one entry by the place in its log
abbrev pub place_cmp : Place → Place → Ordering
place_cmp a b = ordering_then (nat_cmp a.entry b.entry) (nat_cmp a.at b.at)

-- the places of a question's answers
abbrev pub places_of : List (Query × BTreeSet Place) → Query → List Place
places_of questions q = option_map_or (λ s. s.keys) (lookup (same_query q) questions) []

-- whether a place is among these
abbrev pub has : List (Query × BTreeSet Place) → Query → Place → Bool
has questions q p = list_any (same_place p) (places_of questions q)

-- whether a place is of an answer to any of these questions
abbrev pub any_has : List (Query × BTreeSet Place) → Place → Bool
any_has questions p = list_any (λ e. list_any (same_place p) e.1.keys) questions

-- the questions of a unit
abbrev pub questions_of : List (UnitKey × List (Query × BTreeSet Place)) → UnitKey → List (Query × BTreeSet Place)
questions_of units u = unwrap_or (lookup (same_unit u) units) []

-- whether the index leads from a question to a place
abbrev pub reads : List (UnitKey × List (Query × BTreeSet Place)) → Query → Place → Bool
reads units q p = has (questions_of units (unit_of q)) q p
