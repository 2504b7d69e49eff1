-- Each partition that a build links is closed.
use Rattle.std.specs.Prelude.{ℕ, List, map, Option}
use Rattle.al_base.specs.Batch.{key_of}
use Rattle.al_base.specs.declared.unit_key.UnitKey.{UnitKey}
use Rattle.al_query.specs.declared.answer.AnswerKind.{AnswerKind}
use Rattle.al_query.specs.declared.query.Query.{Query}
use Rattle.al_unit_graph.specs.Headers.{Header, Library}
use Rattle.al_unit_faults.specs.Reached.{IsDependenceOrder}
use Rattle.al_unit_faults.specs.Read.{AreHeaded, NameParentBodies}
use Rattle.al_engine_refresh.specs.EntryLaw.{TextMeaning}
use Rattle.al_engine_refresh.specs.Stored.{Stored}
use Rattle.al_engine_refresh.specs.Builds.{results_of}
use Rattle.al_engine_refresh.specs.Settings.{ArePredefined}
use Rattle.al_engine.specs.Rechecks.{IsRechecked, setting_of}
use Rattle.al_engine.specs.Plans.{IsClosedPlan, IsPlanned}
use Rattle.al_engine.specs.declared.compiled.Compiled.{Compiled}
use Rattle.al_engine.specs.declared.planned.Planned.{Planned}

-- what a build plans to link is closed: its library's files have the headers that are read in their sources, its units are in an
-- order of dependence, and the build made its entries for these files
abbrev pub PartitionsAreClosed : Type 0
PartitionsAreClosed =
    (meaning : TextMeaning) (header : List ℕ → Header) (predefined : Query → AnswerKind) (lib : Library) (order : List UnitKey)
    → AreHeaded header lib → NameParentBodies lib → ArePredefined predefined → IsDependenceOrder lib (map key_of order)
    → (old made : UnitKey → Option Stored) (checked : List UnitKey) → IsRechecked meaning header (setting_of header predefined lib) old made checked
    → (main : List ℕ) (before : Compiled) (planned : Planned) → IsPlanned lib (results_of made) main before planned → IsClosedPlan before planned
