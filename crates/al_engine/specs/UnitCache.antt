-- A checker, and the entries of units.
use Rattle.al_engine_refresh.specs.Moves.{Entries}

pub record Kept (C : Type 0) : Type 0 where
  pub checker : C
  pub store : Entries
