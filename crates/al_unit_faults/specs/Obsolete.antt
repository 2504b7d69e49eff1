-- The obsolete units of a library as a list (ARM 10.1.4(5, 7)).
use Rattle.std.specs.Prelude.{◌↔◌, ℕ, Bool, not, ◌&&◌, ◌||◌, List, [], ◌∷◌, map, Option}
use Rattle.std.specs.Option.{is_none}
use Rattle.std.specs.List.{Contains, filter, list_all}
use Rattle.std.specs.List.Sorted.{IsStrictlySortedBy}
use Rattle.std.specs.Str.{bytes_eq}
use Rattle.std.specs.Map.{keys_of}
use Rattle.al_base.specs.Batch.{Key}
use Rattle.al_base.specs.FileNames.{file_name_of}
use Rattle.al_base_graph.specs.Closing.{is_among, closing}
use Rattle.al_unit_graph.specs.Headers.{Library}
use Rattle.al_unit_graph.specs.Library.{unit_at}
use Rattle.al_unit_graph.specs.Traces.{text_at, is_same_text, wants, IsObsolete}
use Rattle.al_unit_graph.specs.Orders.{key_cmp, in_order}
use Rattle.al_unit_faults.specs.Units.{keys_of_units}

-- the files that a file meets: itself, and what the units in them ask for
unfoldable pub met : Library → List ℕ → List (List ℕ)
met lib file = closing bytes_eq (wants lib) (keys_of lib) (file ∷ [])

-- each of them with its source, or with that it isn't there
abbrev pub trace : Library → List ℕ → List (List ℕ × Option (List ℕ))
trace lib file = map (λ f. (f, text_at lib f)) (met lib file)

abbrev pub is_same_pair : List ℕ × Option (List ℕ) → List ℕ × Option (List ℕ) → Bool
is_same_pair a b = bytes_eq a.0 b.0 && is_same_text a.1 b.1

abbrev pub is_within : List (List ℕ × Option (List ℕ)) → List (List ℕ × Option (List ℕ)) → Bool
is_within xs ys = list_all (λ x. is_among is_same_pair x ys) xs

-- the file has the same trace in both libraries, as a set
unfoldable pub is_same_trace : Library → Library → List ℕ → Bool
is_same_trace old new file = is_within (trace old file) (trace new file) && is_within (trace new file) (trace old file)

-- the unit wasn't sound in the older library, or had a diagnostic there, or has another trace
abbrev pub is_obsolete : Library → List (List ℕ) → Library → Key → Bool
is_obsolete old faulty new key =
    is_none (unit_at old key) || (is_among bytes_eq (file_name_of key) faulty || not (is_same_trace old new (file_name_of key)))

-- the obsolete units of the new library since the old one, in which the files of these names had a diagnostic
unfoldable pub obsolete_of : Library → List (List ℕ) → Library → List Key
obsolete_of old faulty new = in_order (filter (is_obsolete old faulty new) (keys_of_units new))

-- the obsolete units that are computed are those that are obsolete
abbrev pub ObsoleteAreListed : Type 0
ObsoleteAreListed = (old : Library) (faulty : List (List ℕ)) (new : Library) (key : Key) → Contains (obsolete_of old faulty new) key ↔ IsObsolete old faulty new key

-- the obsolete units are listed once each, in the order of their keys
abbrev pub ObsoleteAscend : Type 0
ObsoleteAscend = (old : Library) (faulty : List (List ℕ)) (new : Library) → IsStrictlySortedBy key_cmp (obsolete_of old faulty new)
