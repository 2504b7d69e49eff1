-- Items and nodes by their places in the order of keys, and the edges between nodes as ties, which are edges between such places.
use Rattle.std.specs.Prelude.{◌≡◌, ◌≢◌, ◌↔◌, ◌⊎◌, ℕ, ◌<◌, Bool, true, false, not, List, length, map, slice_index_or}
use Rattle.std.specs.List.{Contains, filter}
use Rattle.al_base.specs.Batch.{Key, key_of}
use Rattle.al_base.specs.declared.unit_key.UnitKind.TheVariants.{Decl, Body, Sub}
use Rattle.al_base_graph.specs.declared.edge.Edge.{Edge}
use Rattle.al_base_graph.specs.declared.edge.Reason.{Reason}
use Rattle.al_base_graph.specs.declared.edge.Reason.TheVariants.{ElaborateAll}
use Rattle.al_unit_graph.specs.Headers.{Library}
use Rattle.al_unit_graph.specs.Library.{is_unit}
use Rattle.al_unit_graph.specs.Needed.{Needed, ListsUnits}
use Rattle.al_unit_graph.specs.Orders.{key_cmp}
use Rattle.std.specs.List.Sorted.{IsStrictlySortedBy}
use Rattle.al_base_graph.specs.Ties.{IsBetween}
use Rattle.al_bind.specs.Elaboration.{Carries, IsItem, IsPartOf, is_pair, node_of}
use Rattle.al_bind.specs.declared.places.End.{End}
use Rattle.al_bind.specs.declared.places.Places.{Places}

-- an item that is a node of its own, or the declaration of a pair
abbrev pub is_node : Library → Key → Bool
is_node lib (name, Decl) = true
is_node lib (name, Body) = not (is_pair lib name)
is_node lib (name, Sub) = false

-- the nodes among the needed units
abbrev pub nodes_among : Library → List Key → List Key
nodes_among lib keys = filter (is_node lib) keys

-- the key is at this place
abbrev pub IsAt : List Key → Key → ℕ → Type 0
IsAt keys key i = (i < length keys) × (slice_index_or keys i key ≡ key)

-- a tie represents an edge, and the items that carry it: these by their places among the needed units, the nodes by theirs among the nodes
pub record TellsEdge (lib : Library) (main : List ℕ) (keys : List Key) (edge : Edge) : Type 0 where
  pub x : Key
  pub y : Key
  pub carries : Carries lib main edge.reason x y
  pub x_at : IsAt keys x edge.x
  pub y_at : IsAt keys y edge.y
  pub after_at : IsAt (nodes_among lib keys) (node_of lib x) edge.after
  pub before_at : IsAt (nodes_among lib keys) (node_of lib y) edge.before

-- an edge leads from node a to node b, which comes before it
abbrev pub ComesAfter : Library → List ℕ → List Key → ℕ → ℕ → Type 0
ComesAfter lib main keys a b = (t : Edge) × TellsEdge lib main keys t × IsBetween a b t

-- the needed units in the order of their keys, and for each edge between two nodes and each pair of items that carries it a tie
pub record AreNumbered (lib : Library) (main : List ℕ) (keys : List Key) (edges : List Edge) : Type 0 where
  pub lists : ListsUnits lib keys (Needed lib main)
  pub tells : (t : Edge) → Contains edges t ↔ TellsEdge lib main keys t

-- the places as the code has them: units of the library in the order of their keys, and the nodes among them
pub record ArePlaces (lib : Library) (places : Places) : Type 0 where
  pub ascend : IsStrictlySortedBy key_cmp (map key_of places.keys.items)
  pub units : (k : Key) → Contains (map key_of places.keys.items) k → is_unit lib k ≡ true
  pub nodes : map key_of places.nodes.items ≡ nodes_among lib (map key_of places.keys.items)

-- the places of an item and of its node
pub record IsEnd (lib : Library) (keys : List Key) (key : Key) (end : End) : Type 0 where
  pub item_kind : key.1 ≢ Sub
  pub item_at : IsAt keys key end.item
  pub node_at : IsAt (nodes_among lib keys) (node_of lib key) end.node

-- a tie from an item at one end to the item y, of another node
pub record TiesTo (lib : Library) (keys : List Key) (x : End) (y : Key) (edge : Edge) : Type 0 where
  pub y_kind : y.1 ≢ Sub
  pub x_is : edge.x ≡ x.item
  pub after_is : edge.after ≡ x.node
  pub y_at : IsAt keys y edge.y
  pub before_at : IsAt (nodes_among lib keys) (node_of lib y) edge.before
  pub apart : edge.after ≢ edge.before

-- a tie from the end to an item for which this holds, for its reason
abbrev pub TiesBy : Library → List Key → End → (Reason → Key → Type 0) → Edge → Type 0
TiesBy lib keys x R edge = (y : Key) × R edge.reason y × TiesTo lib keys x y edge

-- this item alone, for this reason
abbrev pub IsFor : Reason → Key → Reason → Key → Type 0
IsFor reason key r k = (r ≡ reason) × (key ≡ k)

-- what the pragma Elaborate_All requires for a unit with this name: its body, and all that its declaration needs
abbrev pub IsForAll : Library → List ℕ → Reason → Key → Type 0
IsForAll lib q r k = IsFor ElaborateAll (q, Body) r k ⊎ ((r ≡ ElaborateAll) × Needed lib q k)

-- a tie for what a part of this item requires
pub record TiesFrom (lib : Library) (keys : List Key) (WantsIt : Key → Reason → Key → Type 0) (x : Key) (edge : Edge) : Type 0 where
  pub end : End
  pub is_end : IsEnd lib keys x end
  pub edges : TiesBy lib keys end (λ reason y. (p : Key) × IsPartOf lib x p × WantsIt p reason y) edge

-- a tie represents what a part of an item requires, by places as TellsEdge has them
pub record TellsWant (lib : Library) (main : List ℕ) (keys : List Key) (WantsIt : Key → Reason → Key → Type 0) (edge : Edge) : Type 0 where
  pub x : Key
  pub y : Key
  pub after : IsItem lib main x
  pub before : IsItem lib main y
  pub part : Key
  pub is_part : IsPartOf lib x part
  pub wants : WantsIt part edge.reason y
  pub apart : node_of lib x ≢ node_of lib y
  pub x_at : IsAt keys x edge.x
  pub y_at : IsAt keys y edge.y
  pub after_at : IsAt (nodes_among lib keys) (node_of lib x) edge.after
  pub before_at : IsAt (nodes_among lib keys) (node_of lib y) edge.before

-- this holds for some member of a list
abbrev pub OneOf : {X : Type 0} → List X → (X → Edge → Type 0) → Edge → Type 0
OneOf {X} zs P t = (z : X) × Contains zs z × P z t

-- the ties for which this holds are added, and no others
pub record Adds (old new : List Edge) (P : Edge → Type 0) : Type 0 where
  pub each : (t : Edge) → Contains new t ↔ (Contains old t ⊎ P t)
