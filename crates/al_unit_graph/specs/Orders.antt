-- Keys of units in order: by the bytes of the names, and of one name the declaration, the body, the subunit.
use Rattle.std.specs.Prelude.{ℕ, List, [], map, Vec}
use Rattle.std.specs.List.{fold}
use Rattle.std.specs.Ordering.{nat_cmp, ordering_then}
use Rattle.std.specs.declared.cmp.Ordering.{Ordering}
use Rattle.std.specs.BTreeSet.{insert_key}
use Rattle.al_base.specs.Batch.{Key}
use Rattle.al_base.specs.Files.{name_cmp}
use Rattle.al_base.specs.declared.unit_key.UnitKind.{UnitKind}
use Rattle.al_base.specs.declared.unit_key.UnitKind.TheVariants.{Decl, Body, Sub}

abbrev pub kind_place : UnitKind → ℕ
kind_place Decl = 0
kind_place Body = 1
kind_place Sub = 2

abbrev pub key_cmp : Key → Key → Ordering
key_cmp a b = ordering_then (name_cmp a.0 b.0) (nat_cmp (kind_place a.1) (kind_place b.1))

-- each of the keys once, in that order
unfoldable pub in_order : List Key → List Key
in_order keys = fold (insert_key key_cmp) [] keys

-- the keys of a set, seen as keys of units
abbrev pub keys_model : {Y : Type 0} → List (Vec ℕ Y × UnitKind) → List Key
keys_model keys = map (λ k. (k.0.items, k.1)) keys

-- the names of a set
abbrev pub names_model : {Y : Type 0} → List (Vec ℕ Y) → List (List ℕ)
names_model names = map (λ n. n.items) names
