-- The plain session: the replies to the commands of a stream of bytes. It is a relation, as the results of compiling and running are; if each of
-- these is unique, so is a session.
use Rattle.std.specs.Prelude.{ℕ, ◌≡◌, zero, suc, Bool, true, false, ◌&&◌, List, [], ◌∷◌, ◌++◌, length, Option, Some, None, is_none}
use Rattle.al_base.specs.Files.{Texts, with_file, without_file, with_renamed, put_refusal, delete_refusal, rename_refusal}
use Rattle.al_base.specs.declared.refusal.Refusal.{Refusal}
use Rattle.al_base.specs.declared.refusal.Refusal.TheVariants.{BadCommand, BadLength as BadLengthRefusal, NoMemory}
use Rattle.al_session_served.specs.declared.serving.Ended.{Ended}
use Rattle.al_session_served.specs.declared.serving.Ended.TheVariants as ended
use Rattle.al_session_served.specs.Builds.{BuildResult, Run as RunResult}
use Rattle.al_session_served.specs.Lines.{Command, Put, Delete, Rename, Build, Run, Report, ReportUnits, ReportObsolete, Quit, Bad, BadLength, first}
use Rattle.al_session_served.specs.Library.{State, Meaning, LastBuild, with_now, after_build, run_refusal, obsolete_refusal, obsolete_now}
use Rattle.al_session_served.specs.RunReport.{IsRunOf}
use Rattle.al_session_served.specs.Replies.{ok, refused, build_reply, run_reply, report_of, units_reply, obsolete_reply}

-- an edit that has this refusal, or gives these files
abbrev pub IsEdited : State → Option Refusal → Texts → List ℕ → State → Type 0
IsEdited state None files reply after = (reply ≡ ok) × (after ≡ with_now state files)
IsEdited state (Some refusal) files reply after = (reply ≡ refused refusal) × (after ≡ state)

-- the reply to a run that has this refusal, or else runs the image of the last build
abbrev pub IsRunReply : Meaning → ℕ → Option LastBuild → Option Refusal → List ℕ → Type 0
IsRunReply m steps built None reply = (run : RunResult) × IsRunOf m.library.runs m.tick steps built run × (reply ≡ run_reply run)
IsRunReply m steps built (Some refusal) reply = reply ≡ refused refusal

-- the reply if there is enough memory, and the library after it
abbrev pub IsPlain : Meaning → State → Command → List ℕ → State → Type 0
IsPlain m state (Put name text) reply after = IsEdited state (put_refusal state.now name (length text)) (with_file state.now name text) reply after
IsPlain m state (Delete name) reply after = IsEdited state (delete_refusal state.now name) (without_file state.now name) reply after
IsPlain m state (Rename old new) reply after = IsEdited state (rename_refusal state.now old new) (with_renamed state.now old new) reply after
IsPlain m state (Build unit) reply after =
    (gave : BuildResult) × m.library.compiles state.now unit gave × (reply ≡ build_reply unit gave) × (after ≡ after_build state unit gave)
IsPlain m state (Run steps) reply after = IsRunReply m steps state.built (run_refusal state.built) reply × (after ≡ state)
IsPlain m state (Report subject) reply after = (reply ≡ report_of subject state.built) × (after ≡ state)
IsPlain m state ReportUnits reply after = (reply ≡ units_reply (m.library.units_of state.now)) × (after ≡ state)
IsPlain m state ReportObsolete reply after = (reply ≡ obsolete_reply (obsolete_now m.library state)) × (after ≡ state)
IsPlain m state Quit reply after = (reply ≡ []) × (after ≡ state)
IsPlain m state Bad reply after = (reply ≡ refused BadCommand) × (after ≡ state)
IsPlain m state BadLength reply after = (reply ≡ refused BadLengthRefusal) × (after ≡ state)

-- the commands that can run out of memory: not those that are refused, deletes, reports about the last build, and quit
abbrev pub may_lack_memory : State → Command → Bool
may_lack_memory state (Put name text) = is_none (put_refusal state.now name (length text))
may_lack_memory state (Rename old new) = is_none (rename_refusal state.now old new)
may_lack_memory state (Build unit) = true
may_lack_memory state (Run steps) = is_none (run_refusal state.built)
may_lack_memory state ReportUnits = true
may_lack_memory state ReportObsolete = is_none (obsolete_refusal state.built)
may_lack_memory state other = false

-- a command that runs out of memory changes nothing
abbrev pub IsAnswerWhere : Meaning → Bool → State → Command → List ℕ → State → Type 0
IsAnswerWhere m true state command reply after = (reply ≡ refused NoMemory) × (after ≡ state)
IsAnswerWhere m false state command reply after = IsPlain m state command reply after

-- a marked command runs out of memory, if it can
abbrev pub IsAnswer : Meaning → Bool → State → Command → List ℕ → State → Type 0
IsAnswer m marked state command reply after = IsAnswerWhere m (marked && may_lack_memory state command) state command reply after

-- all that a session writes, the library that it leaves, and how it ends
pub record Outcome : Type 0 where
  pub replies : List ℕ
  pub state : State
  pub ended : Ended

abbrev pub over : State → Outcome
over state = record { replies = []; state = state; ended = ended.Quit }

-- these replies, and then those to the other commands
abbrev pub prepend : List ℕ → Outcome → Outcome
prepend replies rest = record rest { replies = replies ++ rest.replies }

-- a session whose first command has this reply and leaves this library and these bytes
abbrev pub GoesOnAs : (State → List ℕ → Outcome → Type 0) → Command → List ℕ → State → List ℕ → Outcome → Type 0
GoesOnAs go Quit reply after rest all = all ≡ record { replies = reply; state = after; ended = ended.Quit }
GoesOnAs go BadLength reply after rest all = all ≡ record { replies = reply; state = after; ended = ended.BadLength }
GoesOnAs go other reply after rest all = (later : Outcome) × go after rest later × (all ≡ prepend reply later)

abbrev pub IsTurn : Meaning → (State → List ℕ → Outcome → Type 0) → State → Bool → Option (Command × List ℕ) → Outcome → Type 0
IsTurn m go state marked None all = all ≡ over state
IsTurn m go state marked (Some (command, rest)) all = (reply : List ℕ) × (after : State) × IsAnswer m marked state command reply after × GoesOnAs go command reply after rest all

abbrev pub first_mark : List Bool → Bool
first_mark [] = false
first_mark (marked ∷ marks) = marked

abbrev pub other_marks : List Bool → List Bool
other_marks [] = []
other_marks (marked ∷ marks) = marks

-- The session over these bytes, of at most so many commands, with a mark for each command that runs out of memory: it has these replies, leaves this
-- library and ends so. If at_end is false, the bytes are a prefix of a longer input, and only whole commands count.
unfoldable pub IsSession : Meaning → Bool → ℕ → State → List Bool → List ℕ → Outcome → Type 0
IsSession m at_end zero state marks bytes all = all ≡ over state
IsSession m at_end (suc n) state marks bytes all =
    IsTurn m (λ after rest later. IsSession m at_end n after (other_marks marks) rest later) state (first_mark marks) (first at_end bytes) all
