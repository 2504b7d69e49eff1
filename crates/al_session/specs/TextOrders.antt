-- What an elaboration order obeys, and that each one does if the library is read from sources.
use Rattle.std.specs.Prelude.{ℕ, ◌+◌, List, IsTrue}
use Rattle.al_base.specs.Batch.{Key}
use Rattle.al_base.specs.Files.{Texts}
use Rattle.al_base.specs.declared.unit_key.UnitKind.TheVariants.{Decl, Body}
use Rattle.al_base_graph.specs.declared.edge.Reason.{Reason}
use Rattle.al_unit_graph.specs.Headers.{Library}
use Rattle.al_unit.specs.Libraries.{library_of}
use Rattle.al_bind.specs.Binding.{IsElaboration}
use Rattle.al_bind.specs.Elaboration.{Carries, IsItem, is_pair}
use Rattle.al_bind.specs.Laws.{StandsBefore}
use Rattle.al_bind.specs.Numbers.{IsAt}

-- The order obeys every dependence and every pragma of the partition.
pub record Obeys (lib : Library) (main : List ℕ) (order : List Key) : Type 0 where
  -- if x is elaborated after y for any reason, and the two are no pair, y comes before x
  pub reasons : (reason : Reason) (x y : Key) → Carries lib main reason x y → StandsBefore order y x
  -- the body of a pair under Elaborate_Body comes right after its declaration
  pub pairs : (name : List ℕ) → IsTrue (is_pair lib name) → IsItem lib main (name, Decl) → (i : ℕ) × IsAt order (name, Decl) i × IsAt order (name, Body) (i + 1)

abbrev pub OrdersOfTextsObey : Type 0
OrdersOfTextsObey = (files : Texts) (main : List ℕ) (order : List Key) → IsElaboration (library_of files) main order → Obeys (library_of files) main order
