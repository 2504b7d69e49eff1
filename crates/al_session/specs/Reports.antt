-- Reports of diagnostics in a session.
use Rattle.std.specs.Prelude.{◌≡◌, ℕ, Bool, List, Some}
use Rattle.std.specs.List.Sorted.{IsStrictlySortedBy}
use Rattle.al_base.specs.Batch.{Finding}
use Rattle.al_unit_graph.specs.Headers.{Header}
use Rattle.al_unit_faults.specs.Orders.{finding_cmp}
use Rattle.al_engine_refresh.specs.EntryLaw.{TextMeaning}
use Rattle.al_session_served.specs.Builds.{Faulty}
use Rattle.al_session_served.specs.Library.{LastBuild, empty, with_tick}
use Rattle.al_session_served.specs.Session.{Outcome, IsSession}
use Rattle.al_session.specs.Meanings.{library_meaning}

-- the diagnostics of the last build, in every session, are sorted by file, place and code, without duplicates
abbrev pub ReportsAscend : TextMeaning → (List ℕ → Header) → Type 0
ReportsAscend meaning header =
    (tick : ℕ) (at_end : Bool) (commands : ℕ) (marks : List Bool) (bytes : List ℕ) (all : Outcome) (last : LastBuild) (findings : List Finding)
    → IsSession (with_tick (library_meaning meaning header) tick) at_end commands empty marks bytes all
    → all.state.built ≡ Some last
    → last.gave ≡ Faulty findings
    → IsStrictlySortedBy finding_cmp findings
