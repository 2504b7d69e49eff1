-- The first thing that is missing in a partition.
use Rattle.std.specs.Prelude.{◌≡◌, ℕ, true, false, List}
use Rattle.al_unit_graph.specs.Headers.{Library}
use Rattle.al_bind.specs.declared.lacking.MissingItem.{MissingItem}
use Rattle.al_bind.specs.declared.lacking.MissingItem.TheVariants.{Main, Body, Subunit}
use Rattle.al_bind.specs.Missing.{is_main, LacksBody, LacksSubunit, IsLeastName}

-- the body of each needed declaration that requires one is there
abbrev pub HasBodies : Library → List ℕ → Type 0
HasBodies lib main = (name : List ℕ) → LacksBody lib main name → ⊥

-- the subunit of each stub of a needed unit is there
abbrev pub HasSubunits : Library → List ℕ → Type 0
HasSubunits lib main = (name : List ℕ) → LacksSubunit lib main name → ⊥

-- nothing is missing
abbrev pub IsComplete : Library → List ℕ → Type 0
IsComplete lib main = (is_main lib main ≡ true) × HasBodies lib main × HasSubunits lib main

-- the main subprogram; or else the body with the least name; or else the subunit with the least name
abbrev pub IsLack : Library → List ℕ → MissingItem → Type 0
IsLack lib main Main = is_main lib main ≡ false
IsLack lib main (Body name) = (is_main lib main ≡ true) × IsLeastName (LacksBody lib main) name
IsLack lib main (Subunit name) = (is_main lib main ≡ true) × HasBodies lib main × IsLeastName (LacksSubunit lib main) name
