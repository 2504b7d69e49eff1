-- The order of a partition's units in its image: the items in the order of their elaboration, each with its subunits after it.
use Rattle.std.specs.Prelude.{◌≡◌, ◌↔◌, true, List, [], ◌∷◌, ◌++◌, if◌then◌else◌}
use Rattle.std.specs.List.{Contains, filter}
use Rattle.std.specs.BTreeSet.{insert_key}
use Rattle.std.specs.List.Sorted.{IsStrictlySortedBy}
use Rattle.al_base.specs.Batch.{Key}
use Rattle.al_base.specs.declared.unit_key.UnitKind.TheVariants.{Sub}
use Rattle.al_unit_graph.specs.Headers.{Library}
use Rattle.al_unit_graph.specs.Library.{is_kind}
use Rattle.al_unit_graph.specs.Orders.{in_order, key_cmp}
use Rattle.al_bind.specs.Elaboration.{IsPartOf}

-- the subunits that are parts of an item, each once, by name
pub record AreSubunits (lib : Library) (item : Key) (subunits : List Key) : Type 0 where
  pub ascend : IsStrictlySortedBy key_cmp subunits
  pub all : (p : Key) → Contains subunits p ↔ (IsPartOf lib item p × (is_kind p.1 Sub ≡ true))

-- each item, and after it its subunits
pub data ArePlaced (lib : Library) : List Key → List Key → Type 0 where
  nothing : ArePlaced lib [] []
  item : {x : Key} {items subunits placed : List Key} → AreSubunits lib x subunits → ArePlaced lib items placed → ArePlaced lib (x ∷ items) (x ∷ (subunits ++ placed))

-- the subunits among some keys
abbrev pub subunits_among : List Key → List Key
subunits_among keys = in_order (filter (λ k. is_kind k.1 Sub) keys)

-- these subunits with one key more, if that is a subunit's
abbrev pub with_subunit : List Key → Key → List Key
with_subunit found k = if is_kind k.1 Sub then insert_key key_cmp found k else found
