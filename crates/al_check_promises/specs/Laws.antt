-- What is known of results that were tested.
use Rattle.std.specs.Prelude.{◌≡◌, Bool, List}
use Rattle.al_base.specs.declared.diagnostic.Diagnostic.{Diagnostic}
use Rattle.al_base.specs.declared.unit_key.UnitKey.{UnitKey}
use Rattle.al_view.specs.declared.view.ViewKind.{ViewKind}
use Rattle.al_unit_graph.specs.Headers.{Header}
use Rattle.al_query.specs.Reads.{Agrees, HoldsBy, Log, Table}
use Rattle.al_view_typed.specs.UnitTrees.{UnitTree}
use Rattle.al_query_outcome.specs.Defines.{DefinesOwn, DefinesParts, ShowsOnly}
use Rattle.al_query_outcome.specs.Left.{views_left}
use Rattle.al_query_outcome.specs.ReadsLaw.{FaultsFit, HasCode, UsesOnly}
use Rattle.al_query_outcome.specs.Results.{Outcome, Faulty}
use Rattle.al_query_outcome.specs.declared.interface.UnitInterface.{UnitInterface}
use Rattle.al_check_promises.specs.SelfChecks.{declares_itself, is_complete, not_checked, self_checked}
use Rattle.al_check_promises.specs.Shown.{ComeOf, WereShown}

-- what the check of a unit promises of what its result uses, defines and shows, of its code and of its errors
pub record Promised (unit : UnitKey) (log : Log) (outcome : Outcome) : Type 0 where
  pub uses : UsesOnly unit log outcome
  pub defines : DefinesOwn unit outcome
  pub shows : ShowsOnly unit log outcome
  pub code : HasCode unit outcome
  pub faults : FaultsFit unit outcome

-- a result that was tested is what the check of its unit promises
abbrev pub WhatIsTestedKeeps : Type 0
WhatIsTestedKeeps =
    (unit : UnitKey) (log : Log) (shown : List ViewKind) (i : UnitInterface) (tree : UnitTree) (complete : Bool)
    → WereShown unit log shown → Promised unit log (self_checked unit shown complete i tree)

-- a result that was tested completes what it must, by the answers of the table that the test used
abbrev pub PartsAreCompleted : Type 0
PartsAreCompleted =
    (unit : UnitKey) (h : Header) (t : Table) (shown : List ViewKind) (i : UnitInterface) (tree : UnitTree)
    → DefinesParts unit h t (self_checked unit shown (is_complete unit h (views_left unit.kind unit.name t) (declares_itself unit t) i tree) i tree)

-- errors are what the check promises if each is in the unit's own file and has a number of the check
abbrev pub FaultsAreReported : Type 0
FaultsAreReported = (unit : UnitKey) (log : Log) (faults : List Diagnostic) → FaultsFit unit (Faulty faults) → Promised unit log (Faulty faults)

-- the error that a unit isn't checked yet is what the check promises
abbrev pub NotYetIsReported : Type 0
NotYetIsReported = (unit : UnitKey) (log : Log) → Promised unit log (Faulty (not_checked unit))

-- Views that depend on a table, and under every table come from its answers, were shown if the table is that of a log. It doesn't matter which
-- questions were asked for them.
abbrev pub OnlyRecorded : Type 0
OnlyRecorded =
    (unit : UnitKey) (log : Log) (t : Table) (views : Table → List ViewKind) (shown : List ViewKind)
    → Agrees t log → HoldsBy log (λ v. shown ≡ views v) → ((v : Table) → ComeOf unit v (views v)) → WereShown unit log shown
