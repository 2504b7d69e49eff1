-- What is known of every session, whatever the commands were.
use Rattle.std.specs.Prelude.{◌≡◌, ℕ, Bool, List, IfSome}
use Rattle.al_base.specs.FileLaws.{Ascend}
use Rattle.al_session_served.specs.Library.{State, LibraryMeaning, empty, with_tick}
use Rattle.al_session_served.specs.Session.{Outcome, IsSession}

-- the names of the files are sorted, and so are those of the last build's files
pub record IsOrdered (state : State) : Type 0 where
  pub now : Ascend state.now
  pub built : IfSome state.built (λ last. Ascend last.files)

-- this holds in every session from an empty library
abbrev pub SessionsAreOrdered : LibraryMeaning → Type 0
SessionsAreOrdered m = (tick : ℕ) (at_end : Bool) (commands : ℕ) (marks : List Bool) (bytes : List ℕ) (all : Outcome)
    → IsSession (with_tick m tick) at_end commands empty marks bytes all → IsOrdered all.state

-- the result of the last build is that of compiling its files from an empty library
abbrev pub IsBuiltRight : LibraryMeaning → State → Type 0
IsBuiltRight m state = IfSome state.built (λ last. m.compiles last.files last.main last.gave)

-- this holds in every session from an empty library
abbrev pub BuildsAreRight : LibraryMeaning → Type 0
BuildsAreRight m = (tick : ℕ) (at_end : Bool) (commands : ℕ) (marks : List Bool) (bytes : List ℕ) (all : Outcome)
    → IsSession (with_tick m tick) at_end commands empty marks bytes all → IsBuiltRight m all.state

-- the input and the marks determine a session: two sessions over one input have the same replies, library and end
abbrev pub SessionsAreOne : LibraryMeaning → Type 0
SessionsAreOne m = (tick : ℕ) (at_end : Bool) (commands : ℕ) (state : State) (marks : List Bool) (bytes : List ℕ) (one two : Outcome)
    → IsSession (with_tick m tick) at_end commands state marks bytes one → IsSession (with_tick m tick) at_end commands state marks bytes two → one ≡ two
