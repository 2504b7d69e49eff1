-- The units that a partition needs (ARM 10.2(2..7)).
use Rattle.std.specs.Prelude.{◌≡◌, ◌↔◌, ℕ, true, List, [], ◌∷◌, ◌++◌, Some, if◌then◌else◌}
use Rattle.std.specs.List.{Contains, flat_map}
use Rattle.std.specs.List.Sorted.{IsStrictlySortedBy}
use Rattle.al_base.specs.Batch.{Key}
use Rattle.al_base.specs.declared.unit_key.UnitKind.TheVariants.{Decl, Body, Sub}
use Rattle.al_unit_graph.specs.Headers.{Header, Library}
use Rattle.al_unit_graph.specs.Library.{unit_at, is_unit, declaration_of}
use Rattle.al_unit_graph.specs.Dependence.{direct}
use Rattle.al_unit_graph.specs.Orders.{key_cmp}

-- the units of the library that are so, each once, in the order of the keys
pub record ListsUnits (lib : Library) (keys : List Key) (IsSo : Key → Type 0) : Type 0 where
  pub ascend : IsStrictlySortedBy key_cmp keys
  pub all : (y : Key) → Contains keys y ↔ (IsSo y × (is_unit lib y ≡ true))

-- the unit of this key, if the library has it
abbrev pub present : Library → Key → List Key
present lib key = if is_unit lib key then key ∷ [] else []

-- the body of a declaration
abbrev pub body_of : Library → Key → List Key
body_of lib (name, Decl) = present lib (name, Body)
body_of lib (name, Body) = []
body_of lib (name, Sub) = []

-- the subunits of a unit's stubs
abbrev pub subunits_of : Library → List ℕ → Header → List Key
subunits_of lib name h = flat_map (λ stub. present lib (name ++ 46 ∷ stub, Sub)) h.stubs

-- the least set that holds these
pub data Needed (lib : Library) (main : List ℕ) : Key → Type 0 where
  -- the main unit's declaration, or the body that acts as one
  main_unit : {x : Key} → declaration_of lib main ≡ Some x → Needed lib main x
  -- all on which a needed unit depends
  dependence : {x y : Key} → Needed lib main x → Contains (direct lib x) y → Needed lib main y
  -- the body of a needed declaration
  body : {x y : Key} → Needed lib main x → Contains (body_of lib x) y → Needed lib main y
  -- the subunits of a needed unit's stubs
  subunit : {x y : Key} {h : Header} → Needed lib main x → unit_at lib x ≡ Some h → Contains (subunits_of lib x.0 h) y → Needed lib main y
