-- The elaboration order of a partition's items, or the cycle that shows that there is none (ARM 10.2(9), 10.2.1).
use Rattle.std.specs.Prelude.{◌≡◌, ℕ, List, [], ◌∷◌, length, map, slice_index_or, if◌then◌else◌}
use Rattle.std.specs.List.{flat_map}
use Rattle.al_base.specs.Batch.{Key, key_of}
use Rattle.al_base.specs.declared.unit_key.UnitKind.TheVariants.{Decl, Body, Sub}
use Rattle.al_base_graph.specs.Relations.{IsOrderBy}
use Rattle.al_base_graph.specs.Ties.{IsFault}
use Rattle.al_base_graph.specs.declared.edge.Edge.{Edge}
use Rattle.al_base_graph.specs.declared.edge.Reason.{Reason}
use Rattle.al_unit_graph.specs.Headers.{Library}
use Rattle.al_bind.specs.Elaboration.{is_pair}
use Rattle.al_bind.specs.Faults.{IsComplete, IsLack}
use Rattle.al_unit_graph.specs.Needed.{ListsUnits, Needed}
use Rattle.al_bind.specs.Numbers.{AreNumbered, ComesAfter, nodes_among}
use Rattle.al_bind.specs.declared.binding.Line.{Line}
use Rattle.al_bind.specs.declared.binding.BindFault.{BindFault}
use Rattle.al_bind.specs.declared.binding.BindFault.TheVariants.{Lacks, Cycle}

-- the key at a place below the length
abbrev pub key_at : List Key → ℕ → Key
key_at keys i = slice_index_or keys i ([], Decl)

-- the items of a node: those of a pair are its declaration and its body
abbrev pub items_of : Library → Key → List Key
items_of lib (name, Decl) = (name, Decl) ∷ (if is_pair lib name then (name, Body) ∷ [] else [])
items_of lib (name, Body) = (name, Body) ∷ []
items_of lib (name, Sub) = (name, Sub) ∷ []

-- the items of these nodes
abbrev pub items_at : Library → List Key → List ℕ → List Key
items_at lib nodes order = flat_map (λ i. items_of lib (key_at nodes i)) order

-- nothing is missing, and the items are those of all nodes, each time the least node all of whose predecessors come before it; nodes are numbered in
-- the order of their keys
pub record IsElaboration (lib : Library) (main : List ℕ) (items : List Key) : Type 0 where
  pub complete : IsComplete lib main
  pub keys : List Key
  pub lists : ListsUnits lib keys (Needed lib main)
  pub order : List ℕ
  pub ordered : IsOrderBy (length (nodes_among lib keys)) (ComesAfter lib main keys) order
  pub items_are : items ≡ items_at lib (nodes_among lib keys) order

-- a line: an item, the item before it, and why
abbrev pub line_model : Line → Key × Key × Reason
line_model line = (key_of line.after, key_of line.before, line.reason)

abbrev pub line_of : List Key → Edge → Key × Key × Reason
line_of keys edge = (key_at keys edge.x, key_at keys edge.y, edge.reason)

-- nothing is missing, and the lines show the cycle to which the walk over stuck nodes comes: for each two nodes the carriers of the edge with the
-- first reason, then the least x, then the least y
pub record IsCycleOfItems (lib : Library) (main : List ℕ) (lines : List Line) : Type 0 where
  pub complete : IsComplete lib main
  pub keys : List Key
  pub edges : List Edge
  pub numbered : AreNumbered lib main keys edges
  pub shown : List Edge
  pub fault : IsFault (length (nodes_among lib keys)) edges shown
  pub lines_are : map line_model lines ≡ map (line_of keys) shown

-- the first error that holds
abbrev pub IsBindFault : Library → List ℕ → BindFault → Type 0
IsBindFault lib main (Lacks lack) = IsLack lib main lack
IsBindFault lib main (Cycle lines) = IsCycleOfItems lib main lines.items
