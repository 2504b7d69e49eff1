-- Which library item is elaborated after which (ARM 10.2(9), 10.2.1).
use Rattle.std.specs.Prelude.{◌≡◌, ◌≢◌, ℕ, Bool, true, false, ◌&&◌, List, Some, if◌then◌else◌}
use Rattle.std.specs.Option.{is_some, option_map_or}
use Rattle.std.specs.List.{Contains}
use Rattle.al_base.specs.Batch.{Key}
use Rattle.al_base.specs.declared.unit_key.UnitKind.TheVariants.{Decl, Body, Sub}
use Rattle.al_base_graph.specs.declared.edge.Reason.{Reason}
use Rattle.al_base_graph.specs.declared.edge.Reason.TheVariants.{Depends, Elaborate, ElaborateAll}
use Rattle.al_unit_graph.specs.Headers.{Header, Library}
use Rattle.al_unit_graph.specs.Library.{unit_at, is_unit}
use Rattle.al_unit_graph.specs.Dependence.{DependsOn}
use Rattle.al_unit_graph.specs.Needed.{Needed, subunits_of}

-- a declaration or a body of the library that the partition needs; a subunit is part of its body
abbrev pub IsItem : Library → List ℕ → Key → Type 0
IsItem lib main x = Needed lib main x × (is_unit lib x ≡ true) × (x.1 ≢ Sub)

-- the item itself, and its subunits: those of its stubs, and of theirs
pub data IsPartOf (lib : Library) (x : Key) : Key → Type 0 where
  itself : IsPartOf lib x x
  subunit : {p q : Key} {h : Header} → IsPartOf lib x p → unit_at lib p ≡ Some h → Contains (subunits_of lib p.0 h) q → IsPartOf lib x q

-- a unit requires y before it, for this reason: it depends on y, names y's unit in Elaborate, or names a unit in Elaborate_All whose body y is, or
-- whose declaration needs y
pub data Wants (lib : Library) (p : Key) : Reason → Key → Type 0 where
  depends : {y : Key} → DependsOn lib p y → Wants lib p Depends y
  elaborate : {q : List ℕ} {h : Header} → unit_at lib p ≡ Some h → Contains h.elaborate q → Wants lib p Elaborate (q, Body)
  elaborate_all_body : {q : List ℕ} {h : Header} → unit_at lib p ≡ Some h → Contains h.elaborate_all q → Wants lib p ElaborateAll (q, Body)
  elaborate_all : {y : Key} {q : List ℕ} {h : Header} → unit_at lib p ≡ Some h → Contains h.elaborate_all q → Needed lib q y → Wants lib p ElaborateAll y

-- x is elaborated after y, for this reason: a part of x requires it
abbrev pub Follows : Library → Reason → Key → Key → Type 0
Follows lib reason x y = (p : Key) × IsPartOf lib x p × Wants lib p reason y

-- a declaration with Elaborate_Body, and its body (ARM 10.2.1(26))
abbrev pub is_pair : Library → List ℕ → Bool
is_pair lib name = option_map_or (λ h. h.has_elaborate_body) (unit_at lib (name, Decl)) false && is_some (unit_at lib (name, Body))

-- a node, which is elaborated without a break: an item, or a pair, which is named by its declaration
abbrev pub node_of : Library → Key → Key
node_of lib (name, Decl) = (name, Decl)
node_of lib (name, Body) = if is_pair lib name then (name, Decl) else (name, Body)
node_of lib (name, Sub) = (name, Sub)

-- the items x and y carry an edge from one node to another one
pub record Carries (lib : Library) (main : List ℕ) (reason : Reason) (x y : Key) : Type 0 where
  pub after : IsItem lib main x
  pub before : IsItem lib main y
  pub follows : Follows lib reason x y
  pub apart : node_of lib x ≢ node_of lib y
