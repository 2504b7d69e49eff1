-- The session, turn by turn.
use Rattle.std.proofs.Common.{◌≡◌, ℕ, zero, suc, ◌+◌, Bool, true, false, List, [], ◌∷◌, ◌++◌, Option, Some, None, unwrap_or, refl, sym, ap, subst, append_assoc, arith, zero-add}
use Rattle.std.specs.Io.KnownBytes.{Consumes, IsAtEnd, prepend_known}
use Rattle.al_session_served.specs.Library.{State, Meaning}
use Rattle.al_session_served.specs.declared.serving.Ended.{Ended}
use Rattle.al_session_served.specs.declared.serving.Ended.TheVariants as ended
use Rattle.al_session_served.specs.Lines.{Command, Put, Delete, Rename, Build, Run, Report, ReportUnits, ReportObsolete, Quit, Bad, BadLength, first}
use Rattle.al_session_served.specs.Session.{Outcome, IsAnswer, IsSession, IsTurn, GoesOnAs, over, prepend}
use Rattle.al_session_served.specs.Acting.{AnswersAndEnds, left_by, MayFollow, IsCommand, WantsPulls}
use Rattle.al_session_served.specs.Serving.{IsInput, IsOpen}

pub session-zero : (m : Meaning) (at_end : Bool) (state : State) (marks : List Bool) (bytes : List ℕ) → IsSession m at_end 0 state marks bytes (over state)
unfolding IsSession
session-zero m at_end state marks bytes = refl

session-suc : (m : Meaning) (at_end : Bool) (n : ℕ) (state : State) (marked : Bool) (marks : List Bool) (bytes : List ℕ) (all : Outcome) → IsTurn m (λ after rest later. IsSession m at_end n after marks rest later) state marked (first at_end bytes) all → IsSession m at_end (suc n) state (marked ∷ marks) bytes all
unfolding IsSession
session-suc m at_end n state marked marks bytes all turn = turn

-- if no command is left, the session is over
pub session_over : (m : Meaning) (at_end : Bool) (n : ℕ) (state : State) (marks : List Bool) (bytes : List ℕ) → first at_end bytes ≡ None → IsSession m at_end n state marks bytes (over state)
unfolding IsSession
session_over m at_end zero state marks bytes none = refl
session_over m at_end (suc n) state marks bytes none = rw none refl

pub first-nil : (at_end : Bool) → first at_end [] ≡ None
unfolding first
first-nil true = refl
first-nil false = refl

-- a session whose first command is this one, marked so, with what is left after it
pub record Turns (m : Meaning) (before : State) (command : Command) (marked : Bool) (go : State → List ℕ → Outcome → Type 0) (rest : List ℕ) (all : Outcome) : Type 0 where
  pub reply : List ℕ
  pub after : State
  pub answer : IsAnswer m marked before command reply after
  pub goes_on : GoesOnAs go command reply after rest all

is_turn : (m : Meaning) (go : State → List ℕ → Outcome → Type 0) (state : State) (marked : Bool) (next : Option (Command × List ℕ)) (command : Command) (rest : List ℕ) (all : Outcome) → next ≡ Some (command, rest) → Turns m state command marked go rest all → IsTurn m go state marked next all
is_turn m go state marked next command rest all e t = subst (λ (x : Option (Command × List ℕ)). IsTurn m go state marked x all) (sym e) (t.reply, t.after, t.answer, t.goes_on)

module _ (m : Meaning) (before after : State) (reply : List ℕ) where
  pub record Goes (command : Command) : Type 1 where
    pub marked : Bool
    pub goes : (go : State → List ℕ → Outcome → Type 0) (more : List ℕ) (later : Outcome) → go after more later → Turns m before command marked go (left_by command more) (prepend reply later)

  answer_goes : (command : Command) (ends : Option Ended) → AnswersAndEnds m before after reply ends command → ends ≡ None → Goes command
  answer_goes (Put name text) ends a none = record { marked = a.1.0; goes = λ go more later is. record { reply = reply; after = after; answer = a.1.1; goes_on = (later, is, refl) } }
  answer_goes (Delete name) ends a none = record { marked = a.1.0; goes = λ go more later is. record { reply = reply; after = after; answer = a.1.1; goes_on = (later, is, refl) } }
  answer_goes (Rename old new) ends a none = record { marked = a.1.0; goes = λ go more later is. record { reply = reply; after = after; answer = a.1.1; goes_on = (later, is, refl) } }
  answer_goes (Build unit) ends a none = record { marked = a.1.0; goes = λ go more later is. record { reply = reply; after = after; answer = a.1.1; goes_on = (later, is, refl) } }
  answer_goes (Run steps) ends a none = record { marked = a.1.0; goes = λ go more later is. record { reply = reply; after = after; answer = a.1.1; goes_on = (later, is, refl) } }
  answer_goes (Report subject) ends a none = record { marked = a.1.0; goes = λ go more later is. record { reply = reply; after = after; answer = a.1.1; goes_on = (later, is, refl) } }
  answer_goes ReportUnits ends a none = record { marked = a.1.0; goes = λ go more later is. record { reply = reply; after = after; answer = a.1.1; goes_on = (later, is, refl) } }
  answer_goes ReportObsolete ends a none = record { marked = a.1.0; goes = λ go more later is. record { reply = reply; after = after; answer = a.1.1; goes_on = (later, is, refl) } }
  answer_goes Bad ends a none = record { marked = a.1.0; goes = λ go more later is. record { reply = reply; after = after; answer = a.1.1; goes_on = (later, is, refl) } }
  answer_goes Quit ends a none = let e = a.0 in cc
  answer_goes BadLength ends a none = let e = a.0 in cc

  answer_ends : (command : Command) (ends : Option Ended) (e : Ended) → AnswersAndEnds m before after reply ends command → ends ≡ Some e → (go : State → List ℕ → Outcome → Type 0) (rest : List ℕ) → Turns m before command false go rest (record { replies = reply; state = after; ended = e })
  answer_ends Quit ends e a some go rest = let same : ended.Quit ≡ e = cc (a.0, some) in record { reply = reply; after = after; answer = (a.1, a.2); goes_on = rw (← same) refl }
  answer_ends BadLength ends e a some go rest = let same : ended.BadLength ≡ e = cc (a.0, some) in record { reply = reply; after = after; answer = (a.1, a.2); goes_on = rw (← same) refl }
  answer_ends (Put name text) ends e a some go rest = let n = a.0 in cc
  answer_ends (Delete name) ends e a some go rest = let n = a.0 in cc
  answer_ends (Rename old new) ends e a some go rest = let n = a.0 in cc
  answer_ends (Build unit) ends e a some go rest = let n = a.0 in cc
  answer_ends (Run steps) ends e a some go rest = let n = a.0 in cc
  answer_ends (Report subject) ends e a some go rest = let n = a.0 in cc
  answer_ends ReportUnits ends e a some go rest = let n = a.0 in cc
  answer_ends ReportObsolete ends e a some go rest = let n = a.0 in cc
  answer_ends Bad ends e a some go rest = let n = a.0 in cc

-- if a command after which the session goes on comes first, the session is open as it is with what follows
opens : (m : Meaning) (before after : State) (reply : List ℕ) (command : Command) → AnswersAndEnds m before after reply None command → (n : ℕ) (bytes more : List ℕ) → first false bytes ≡ Some (command, left_by command more) → IsOpen n more → IsOpen (suc n) bytes
opens m before after reply (Put name text) a n bytes more is o = IsOpen.goes_on is tt o
opens m before after reply (Delete name) a n bytes more is o = IsOpen.goes_on is tt o
opens m before after reply (Rename old new) a n bytes more is o = IsOpen.goes_on is tt o
opens m before after reply (Build unit) a n bytes more is o = IsOpen.goes_on is tt o
opens m before after reply (Run steps) a n bytes more is o = IsOpen.goes_on is tt o
opens m before after reply (Report subject) a n bytes more is o = IsOpen.goes_on is tt o
opens m before after reply ReportUnits a n bytes more is o = IsOpen.goes_on is tt o
opens m before after reply ReportObsolete a n bytes more is o = IsOpen.goes_on is tt o
opens m before after reply Bad a n bytes more is o = IsOpen.goes_on is tt o
opens m before after reply Quit a n bytes more is o = let e = a.0 in cc
opens m before after reply BadLength a n bytes more is o = let e = a.0 in cc

-- one turn, whatever may follow
pub record Turned (m : Meaning) (before after : State) (reply : List ℕ) (ends : Option Ended) (bytes : List ℕ) (last marked : Bool) : Type 0 where
  pub goes : ends ≡ None → (at_end : Bool) (n : ℕ) (marks : List Bool) (more : List ℕ) (later : Outcome) → MayFollow last at_end more → IsSession m at_end n after marks more later → IsSession m at_end (suc n) before (marked ∷ marks) (bytes ++ more) (prepend reply later)
  pub opens : ends ≡ None → last ≡ false → (n : ℕ) (more : List ℕ) → IsOpen n more → IsOpen (suc n) (bytes ++ more)
  pub stops : (e : Ended) → ends ≡ Some e → (at_end : Bool) (n : ℕ) (marks : List Bool) (more : List ℕ) → MayFollow last at_end more → IsSession m at_end (suc n) before (marked ∷ marks) (bytes ++ more) (record { replies = reply; state = after; ended = e })

pub turned : (m : Meaning) (before after : State) (reply : List ℕ) (ends : Option Ended) (bytes : List ℕ) (last : Bool) (command : Command) → IsCommand bytes command last → AnswersAndEnds m before after reply ends command → (marked : Bool) × Turned m before after reply ends bytes last marked
turned m before after reply None bytes last command is a =
    let one = answer_goes m before after reply command None a refl in (
      one.marked,
      record {
        goes = λ none at_end n marks more later follows session. session-suc m at_end n before one.marked marks (bytes ++ more) (prepend reply later) (is_turn m (λ fs rest o. IsSession m at_end n fs marks rest o) before one.marked (first at_end (bytes ++ more)) command (left_by command more) (prepend reply later) (is.is_first at_end more follows) (one.goes (λ fs rest o. IsSession m at_end n fs marks rest o) more later session));
        opens = λ none not_last n more o. opens m before after reply command a n (bytes ++ more) more (is.is_first false more (λ last_too. cc)) o;
        stops = λ e some. cc;
      },
    )
turned m before after reply (Some e) bytes last command is a = (
  false,
  record {
    goes = λ none. cc;
    opens = λ none. cc;
    stops = λ f some at_end n marks more follows. session-suc m at_end n before false marks (bytes ++ more) (record { replies = reply; state = after; ended = f }) (is_turn m (λ fs rest o. IsSession m at_end n fs marks rest o) before false (first at_end (bytes ++ more)) command (left_by command more) (record { replies = reply; state = after; ended = f }) (is.is_first at_end more follows) (answer_ends m before after reply command (Some e) f a some (λ fs rest o. IsSession m at_end n fs marks rest o) (left_by command more)));
  },
)

-- After so many turns, the session over what was taken and whatever comes is what was replied, and then the session over what comes.
pub record Reached (m : Meaning) (start now : State) (taken done : List ℕ) (count : ℕ) : Type 0 where
  pub marks : List Bool
  pub opens : (n : ℕ) (more : List ℕ) → IsOpen n more → IsOpen (count + n) (taken ++ more)
  pub step : (at_end : Bool) (n : ℕ) (later : List Bool) (more : List ℕ) (all : Outcome) → IsSession m at_end n now later more all → IsSession m at_end (count + n) start (marks ++ later) (taken ++ more) (prepend done all)

pub reached_start : (m : Meaning) (files : State) → Reached m files files [] [] 0
reached_start m files = record { marks = []; opens = λ n more o. rw zero-add o; step = λ at_end n later more all is. subst (λ (k : ℕ). IsSession m at_end k files later more all) (sym (zero-add n)) is }

prepend_twice : (xs ys : List ℕ) (o : Outcome) → prepend xs (prepend ys o) ≡ prepend (xs ++ ys) o
prepend_twice xs ys o = ap (λ r. record o { replies = r }) (sym (append_assoc xs ys o.replies))

pub reached_more : {m : Meaning} {start now next : State} {taken done : List ℕ} (bytes reply : List ℕ) {count : ℕ} (marked : Bool) → Reached m start now taken done count → ((n : ℕ) (more : List ℕ) → IsOpen n more → IsOpen (suc n) (bytes ++ more)) → ((at_end : Bool) (n : ℕ) (marks : List Bool) (more : List ℕ) (later : Outcome) → IsSession m at_end n next marks more later → IsSession m at_end (suc n) now (marked ∷ marks) (bytes ++ more) (prepend reply later)) → Reached m start next (taken ++ bytes) (done ++ reply) (count + 1)
reached_more {m} {start} {now} {next} {taken} {done} bytes reply {count} marked reached one_opens one = record {
  marks = reached.marks ++ marked ∷ [];
  opens = λ n more o.
      let k : (count + 1) + n ≡ count + suc n = omega arith in
      rw (k, append_assoc taken bytes more) (reached.opens (suc n) (bytes ++ more) (one_opens n more o));
  step = λ at_end n later more all is.
      let k : (count + 1) + n ≡ count + suc n = omega arith in
      rw (k, append_assoc reached.marks (marked ∷ []) later, append_assoc taken bytes more, ← prepend_twice done reply all)
      (reached.step at_end (suc n) (marked ∷ later) (bytes ++ more) (prepend reply all) (one at_end n later more all is));
}

-- what a reader that shows its bytes has given and has left are all of them
pub is_input : (old new : Option (List ℕ)) (bytes : List ℕ) → Consumes old new bytes → IsInput old (bytes ++ unwrap_or new [])
is_input None new bytes h = tt
is_input (Some xs) None bytes h = absurd h
is_input (Some xs) (Some ys) bytes h = h

pub none_left : (new : Option (List ℕ)) → IsAtEnd new → unwrap_or new [] ≡ []
none_left None h = refl
none_left (Some xs) h = h

pub known-nil : (x : Option (List ℕ)) → prepend_known [] x ≡ x
known-nil None = refl
known-nil (Some xs) = refl

-- the end of the input, if no command begins
pub wants_nothing : WantsPulls [] true 1
wants_nothing = record { early = []; late = []; parts = refl; unfinished = first-nil false; count = omega arith; one_more = λ e. cc }
