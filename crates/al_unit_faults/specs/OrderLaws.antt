-- What is there of units that break no rule of the graph, and their ranks in an order of dependence.
use Rattle.std.specs.Prelude.{◌≡◌, ◌⊎◌, ℕ, ◌+◌, ◌<◌, true, false, List, [], ◌∷◌, Some, length, if◌then◌else◌}
use Rattle.std.specs.List.{Contains}
use Rattle.al_base.specs.Batch.{Key}
use Rattle.al_base.specs.declared.unit_key.UnitKind.TheVariants.{Decl, Body, Sub}
use Rattle.al_unit_graph.specs.Headers.{Header, Library, key_of_unit}
use Rattle.al_unit_graph.specs.Names.{is_reserved}
use Rattle.al_unit_graph.specs.Library.{declaration_of, parent_body_of, unit_at}
use Rattle.al_unit_graph.specs.Dependence.{direct}
use Rattle.al_unit_graph.specs.Closures.{is_same_key}
use Rattle.al_unit_faults.specs.Reached.{is_faultless}
use Rattle.al_unit_faults.specs.Read.{NameParentBodies}

-- which declaration and which parent body a name has, by which of its units break no rule
pub record AreThere (lib : Library) : Type 0 where
  -- a faultless unit is in the library
  pub unit : (key : Key) → is_faultless lib key ≡ true → (h : Header) × (unit_at lib key ≡ Some h) × (key_of_unit h ≡ key)
  -- a faultless declaration is the declaration of its name
  pub declared : (n : List ℕ) → is_faultless lib (n, Decl) ≡ true → declaration_of lib n ≡ Some (n, Decl)
  -- if a body is faultless it acts as the declaration, or a file for the declaration is there (ARM 10.1.4(4))
  pub acting : (n : List ℕ) → is_faultless lib (n, Body) ≡ true → declaration_of lib n ≡ Some (n, Body) ⊎ declaration_of lib n ≡ Some (n, Decl)
  -- a body depends on the declaration that it completes
  pub completes : NameParentBodies lib → (n : List ℕ) → is_faultless lib (n, Body) ≡ true → is_faultless lib (n, Decl) ≡ true → Contains (direct lib (n, Body)) (n, Decl)
  -- a faultless body, or subunit, is the parent body of its name (ARM 10.1.3(8))
  pub body : (n : List ℕ) → is_faultless lib (n, Body) ≡ true → parent_body_of lib n ≡ Some (n, Body)
  pub subunit : (n : List ℕ) → is_faultless lib (n, Sub) ≡ true → parent_body_of lib n ≡ Some (n, Sub)
  -- the implementation's names are no faultless unit's (ARM A.2(4))
  pub reserved : (key : Key) → is_reserved key.0 ≡ true → is_faultless lib key ≡ false

-- how many keys come before one
abbrev pub rank_in : List Key → Key → ℕ
rank_in [] key = 0
rank_in (k ∷ ks) key = if is_same_key k key then 0 else 1 + rank_in ks key

-- ranks below the length of an order, by which each faultless unit has a higher rank than all of them on which it depends by itself
pub record AreRanked (lib : Library) (order : List Key) : Type 0 where
  pub bounded : (key : Key) → is_faultless lib key ≡ true → rank_in order key < length order
  pub lower : (key d : Key) → is_faultless lib key ≡ true → is_faultless lib d ≡ true → Contains (direct lib key) d → rank_in order d < rank_in order key
