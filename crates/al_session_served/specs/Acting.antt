-- One turn of a session.
use Rattle.std.specs.Prelude.{◌≡◌, ℕ, Bool, true, false, List, [], ◌++◌, ◌+◌, length, Option, Some, None}
use Rattle.std.specs.Io.KnownBytes.{IsAtEnd}
use Rattle.al_session_served.specs.Library.{State, Meaning}
use Rattle.al_session_served.specs.declared.serving.Ended.{Ended}
use Rattle.al_session_stream.specs.Input.{Moment, Reads, Stops}
use Rattle.al_session_served.specs.declared.serving.Ended.TheVariants as ended
use Rattle.al_session_served.specs.Lines.{Command, LineKind, Quit, BadLength, first, after_line, after_put}
use Rattle.al_base.specs.declared.refusal.Refusal.TheVariants.{BadLength as BadLengthRefusal}
use Rattle.al_session_served.specs.Replies.{refused}
use Rattle.al_session_served.specs.Session.{IsAnswer}

-- the reply to the command, and the library after it, with enough memory or without
abbrev pub Answers : Meaning → State → State → List ℕ → Command → Type 0
Answers m old new reply command = (marked : Bool) × IsAnswer m marked old command reply new

-- the reply and the library after the command, and whether the session ends with it
abbrev pub AnswersAndEnds : Meaning → State → State → List ℕ → Option Ended → Command → Type 0
AnswersAndEnds m old new reply ends Quit = (ends ≡ Some ended.Quit) × (reply ≡ []) × (new ≡ old)
AnswersAndEnds m old new reply ends BadLength = (ends ≡ Some ended.BadLength) × (reply ≡ refused BadLengthRefusal) × (new ≡ old)
AnswersAndEnds m old new reply ends other = (ends ≡ None) × Answers m old new reply other

-- what the command leaves of the bytes after it
abbrev pub left_by : Command → List ℕ → List ℕ
left_by BadLength more = []
left_by other more = more

-- if the bytes of a command are the last ones of the input, nothing comes after them
abbrev pub MayFollow : Bool → Bool → List ℕ → Type 0
MayFollow last at_end more = last ≡ true → (at_end ≡ true) × (more ≡ [])

-- Whatever comes after these bytes, they are this command.
pub record IsCommand (bytes : List ℕ) (command : Command) (last : Bool) : Type 0 where
  pub is_first : (at_end : Bool) (more : List ℕ) → MayFollow last at_end more → first at_end (bytes ++ more) ≡ Some (command, left_by command more)

-- Whatever comes after these bytes, they and the line before them are this command.
pub record IsText (kind : LineKind) (bytes : List ℕ) (command : Command) (last : Bool) : Type 0 where
  pub is_rest : (at_end : Bool) (more : List ℕ) → MayFollow last at_end more → after_line at_end kind (bytes ++ more) ≡ Some (command, left_by command more)

-- The number of pulls that a command needs: one for each byte but the last, and one more for that or for the end of the input, as without it the
-- command wasn't whole.
pub record WantsPulls (bytes : List ℕ) (last : Bool) (most : ℕ) : Type 0 where
  pub early : List ℕ
  pub late : List ℕ
  pub parts : bytes ≡ early ++ late
  pub unfinished : first false early ≡ None
  pub count : most ≡ length early + 1
  pub one_more : last ≡ false → length bytes ≡ most

-- the number of pulls that the bytes of a put need
pub record WantsPullsForText (kind : LineKind) (bytes : List ℕ) (last : Bool) (most : ℕ) : Type 0 where
  pub early : List ℕ
  pub late : List ℕ
  pub parts : bytes ≡ early ++ late
  pub unfinished : after_line false kind early ≡ None
  pub count : most ≡ length early + 1
  pub one_more : last ≡ false → length bytes ≡ most

-- a command is read and carried out; `last` says whether the input ended with it
pub record ActsOn (m : Meaning) (old new : Moment) (before after : State) (reply : List ℕ) (ends : Option Ended) (is_last : Bool) : Type 0 where
  pub command : Command
  pub bytes : List ℕ
  pub last : Bool
  pub most : ℕ
  pub reads : Reads old new bytes most
  pub wants : WantsPulls bytes last most
  pub is_command : IsCommand bytes command last
  pub answers : AnswersAndEnds m before after reply ends command
  pub at_end : last ≡ true → IsAtEnd new.ahead
  pub adds : ends ≡ None → is_last ≡ last

-- the rest of a command is read and carried out
pub record ActsOnRest (m : Meaning) (kind : LineKind) (old new : Moment) (before after : State) (reply : List ℕ) (ends : Option Ended) : Type 0 where
  pub command : Command
  pub bytes : List ℕ
  pub last : Bool
  pub most : ℕ
  pub reads : Reads old new bytes most
  pub wants : WantsPullsForText kind bytes last most
  pub is_text : IsText kind bytes command last
  pub answers : AnswersAndEnds m before after reply ends command
  pub at_end : last ≡ true → IsAtEnd new.ahead
  pub goes_on : ends ≡ None → last ≡ false

-- a failure before a command is whole
pub record StopsShort (old new : Moment) : Type 0 where
  pub bytes : List ℕ
  pub no_command : first false bytes ≡ None
  pub stops : Stops old new bytes

-- a failure before the bytes of a put are whole
pub record StopsInText (name : List ℕ) (len : ℕ) (old new : Moment) : Type 0 where
  pub bytes : List ℕ
  pub no_text : after_put false name len bytes ≡ None
  pub stops : Stops old new bytes
