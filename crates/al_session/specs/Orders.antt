-- What the elaboration orders of builds obey, in every session.
use Rattle.std.specs.Prelude.{◌≡◌, ℕ, Bool, List, Some}
use Rattle.al_base.specs.Batch.{Key}
use Rattle.al_unit_graph.specs.Headers.{Header}
use Rattle.al_unit.specs.Libraries.{library_of}
use Rattle.al_session.specs.TextOrders.{Obeys}
use Rattle.al_engine_refresh.specs.EntryLaw.{TextMeaning}
use Rattle.al_session_served.specs.Builds.{order_of}
use Rattle.al_session_served.specs.Library.{LastBuild, empty, with_tick}
use Rattle.al_session_served.specs.Session.{Outcome, IsSession}
use Rattle.al_session.specs.Meanings.{library_meaning}

-- the order of the last build, with an image or without one, obeys every dependence and every pragma of its files
abbrev pub BuildsObey : TextMeaning → (List ℕ → Header) → Type 0
BuildsObey meaning header =
    (tick : ℕ) (at_end : Bool) (commands : ℕ) (marks : List Bool) (bytes : List ℕ) (all : Outcome) (last : LastBuild) (order : List Key)
    → IsSession (with_tick (library_meaning meaning header) tick) at_end commands empty marks bytes all
    → all.state.built ≡ Some last
    → order_of last.gave ≡ Some order
    → Obeys (library_of last.files) last.main order
