-- An elaboration order obeys each dependence and each pragma.
use Rattle.std.specs.Prelude.{ℕ, List}
use Rattle.al_base.specs.Batch.{Key}
use Rattle.al_base_graph.specs.declared.edge.Reason.{Reason}
use Rattle.al_unit_graph.specs.Headers.{Library}
use Rattle.al_unit_faults.specs.Read.{NameParentBodies}
use Rattle.al_bind.specs.Binding.{IsElaboration}
use Rattle.al_bind.specs.Elaboration.{Carries}
use Rattle.al_bind.specs.Laws.{StandsBefore}

-- if an item x is elaborated after an item y for any reason, and the two are no pair, y comes before x; only the subunits of the library name a
-- parent body, as they do if it is read from sources
abbrev pub OrderObeys : Type 0
OrderObeys =
    (lib : Library) (main : List ℕ) (items : List Key) → NameParentBodies lib → IsElaboration lib main items
    → (reason : Reason) (x y : Key) → Carries lib main reason x y → StandsBefore items y x
