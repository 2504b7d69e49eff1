-- What an elaboration order keeps, in terms of items.
use Rattle.std.specs.Prelude.{ℕ, ◌+◌, ◌<◌, List, IsTrue}
use Rattle.al_base.specs.Batch.{Key}
use Rattle.al_base.specs.declared.unit_key.UnitKind.TheVariants.{Decl, Body}
use Rattle.al_unit_graph.specs.Headers.{Library}
use Rattle.al_bind.specs.Binding.{IsCycleOfItems, IsElaboration}
use Rattle.al_bind.specs.declared.binding.Line.{Line}
use Rattle.al_bind.specs.Elaboration.{IsItem, is_pair}
use Rattle.al_bind.specs.Numbers.{IsAt}

-- y comes before x in the list
pub record StandsBefore (items : List Key) (y x : Key) : Type 0 where
  pub first : ℕ
  pub second : ℕ
  pub first_at : IsAt items y first
  pub second_at : IsAt items x second
  pub before : first < second

-- the body of a pair comes right after its declaration
abbrev pub PairsStayTogether : Type 0
PairsStayTogether =
    (lib : Library) (main : List ℕ) (items : List Key) → IsElaboration lib main items
    → (name : List ℕ) → IsTrue (is_pair lib name) → IsItem lib main (name, Decl) → (i : ℕ) × IsAt items (name, Decl) i × IsAt items (name, Body) (i + 1)

-- no partition has both an order and a cycle
abbrev pub OrderExcludesCycle : Type 0
OrderExcludesCycle = (lib : Library) (main : List ℕ) (items : List Key) (lines : List Line) → IsElaboration lib main items → IsCycleOfItems lib main lines → ⊥
