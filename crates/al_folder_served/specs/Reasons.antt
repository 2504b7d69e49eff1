-- Which items must be elaborated before an item, by what the sources of its parts say (ARM 10.2(9), 10.2.1(20), 10.2.1(21)).
use Rattle.std.specs.Prelude.{◌≡◌, ◌↔◌, ℕ, Bool, not, ◌&&◌, List, [], fold, map, if◌then◌else◌}
use Rattle.std.specs.Option.{option_map_or}
use Rattle.std.specs.List.{All, Contains, flat_map}
use Rattle.al_base.specs.Batch.{Key, key_of}
use Rattle.al_base.specs.declared.unit_key.UnitKind.TheVariants.{Sub}
use Rattle.al_unit_graph.specs.Headers.{Library}
use Rattle.al_unit_graph.specs.Library.{unit_at, is_kind}
use Rattle.al_unit_graph.specs.Dependence.{direct}
use Rattle.al_unit_graph.specs.Closures.{is_same_key, with_item}
use Rattle.al_bind.specs.Elaboration.{IsPartOf}
use Rattle.al_folder_served.specs.declared.reasons.Reasons.{Reasons}

-- y is an item, and another one than x
abbrev pub is_other : Key → Key → Bool
is_other x y = not (is_kind y.1 Sub) && not (is_same_key y x)

-- y is added to what was found, if it is an item other than x that isn't there yet
abbrev pub with_other : Key → List Key → Key → List Key
with_other x found y = if is_other x y then with_item is_same_key found y else found

-- what a part of x depends on directly is added
abbrev pub with_part : Library → Key → List Key → Key → List Key
with_part lib x found part = fold (with_other x) found (direct lib part)

-- the names in a unit's pragmas Elaborate, and in its pragmas Elaborate_All
abbrev pub elaborated : Library → Key → List (List ℕ)
elaborated lib part = option_map_or (λ h. h.elaborate) (unit_at lib part) []

abbrev pub elaborated_all : Library → Key → List (List ℕ)
elaborated_all lib part = option_map_or (λ h. h.elaborate_all) (unit_at lib part) []

-- these are the parts of an item, and what they depend on and name is listed part by part: a dependence once
pub record AreReasons (lib : Library) (item : Key) (depends : List Key) (elaborate elaborate_all : List (List ℕ)) : Type 0 where
  pub parts : List Key
  pub are_parts : (p : Key) → Contains parts p ↔ IsPartOf lib item p
  pub depends_are : depends ≡ fold (with_part lib item) [] parts
  pub elaborate_are : elaborate ≡ flat_map (elaborated lib) parts
  pub elaborate_all_are : elaborate_all ≡ flat_map (elaborated_all lib) parts

-- the reasons of one item
abbrev pub AreRight : Library → Reasons → Type 0
AreRight lib r = AreReasons lib (key_of r.item) (map key_of r.depends.items) r.elaborate.items r.elaborate_all.items

-- the reasons of each of these items, in their order
pub record AreReasonsOf (lib : Library) (items : List Key) (reasons : List Reasons) : Type 0 where
  pub each : All (AreRight lib) reasons
  pub items_are : map (λ r. key_of r.item) reasons ≡ items
