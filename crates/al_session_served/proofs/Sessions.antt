-- How a session comes to its end.
use Rattle.std.proofs.Common.{◌≡◌, ℕ, suc, ◌+◌, ◌-◌, ◌<◌, ◌≤◌, Bool, true, false, List, [], ◌∷◌, ◌++◌, length, Option, Some, None, unwrap_or, refl, sym, ap, subst, ◌∙◌, append_assoc, append-nil, length-append, arith, inl, inr}
use Rattle.std.proofs.lemmas.List.{nil_from_length}
use Rattle.std.specs.Io.KnownBytes.{Appends, Consumes, IsAtEnd}
use Rattle.al_session_stream.specs.Input.{SourceMoment}
use Rattle.al_session_stream.specs.Output.{SinkMoment}
use Rattle.al_session_served.specs.Library.{State, Meaning}
use Rattle.al_session_served.specs.declared.serving.Ended.{Ended}
use Rattle.al_session_served.specs.declared.serving.Ended.TheVariants as ended
use Rattle.al_session_served.specs.Lines.{first}
use Rattle.al_session_served.specs.Session.{Outcome, over, prepend, IsSession}
use Rattle.al_session_served.specs.Acting.{MayFollow, WantsPulls}
use Rattle.al_session_stream.specs.Output.{IsFront}
use Rattle.al_session_served.specs.Serving.{Serves, IsOpen, Calls, LacksInput, StopsReading, StopsWriting}
use Rattle.al_session_served.proofs.Turns.{Turned, Reached, session-zero, session_over, first-nil, is_input, none_left}

-- calls that bytes needed are needed by these bytes and more
pub calls_more : (commands : ℕ) (input more : List ℕ) (before after : ℕ) → Calls commands input before after → Calls commands (input ++ more) before after
calls_more commands input more before after calls = elim calls [
  | inl none ↦ inl none
  | inr need ↦ inr (record {
    early = need.early;
    late = need.late ++ more;
    parts = ap (λ i. i ++ more) need.parts ∙ append_assoc need.early need.late more;
    unfinished = need.unfinished;
    few = need.few;
  })
]

nothing_more : (done part : List ℕ) → done ++ part ≡ done → part ≡ []
nothing_more done part e = nil_from_length part (omega (arith, length-append done part, ap length e))

module _ (m : Meaning) (commands : ℕ) (start now : State) (taken done : List ℕ) (k : ℕ) (reached : Reached m start now taken done k) where
  -- if nothing more is answered
  over_after : (at_end : Bool) (more : List ℕ) → k ≤ commands → IsSession m at_end (commands - k) now [] more (over now) → IsSession m at_end commands start (reached.marks ++ []) (taken ++ more) (prepend done (over now))
  over_after at_end more le nothing =
      let count : k + (commands - k) ≡ commands = omega arith in
      subst (λ (n : ℕ). IsSession m at_end n start (reached.marks ++ []) (taken ++ more) (prepend done (over now))) count (reached.step at_end (commands - k) [] more (over now) nothing)

  -- the calls that one more command needed
  pub calls_in_need : (bytes : List ℕ) (last : Bool) (most before after : ℕ) → k < commands → WantsPulls bytes last most → after ≤ before + (length taken + most) → Calls commands (taken ++ bytes) before after
  calls_in_need bytes last most before after lt wants le =
      let rest : k + suc (commands - k - 1) ≡ commands = omega arith in
      inr (record {
        early = taken ++ wants.early;
        late = wants.late;
        parts = ap (λ b. taken ++ b) wants.parts ∙ sym (append_assoc taken wants.early wants.late);
        unfinished = rw rest at (reached.opens (suc (commands - k - 1)) wants.early (IsOpen.waits wants.unfinished));
        few = omega (arith, length-append taken wants.early, wants.count);
      })

  pub served_over : (r0 r1 : SourceMoment) (a1 : Option (List ℕ)) (w0 w1 : SinkMoment) → k ≤ commands → Consumes r0.ahead a1 taken → Appends w0.written w1.written done → IsSession m true (commands - k) now [] (unwrap_or a1 []) (over now) → (r1.faults ≡ r0.faults) × (w1.faults ≡ w0.faults) → Calls commands taken r0.pulls r1.pulls → (w0.waits ≡ false → w1.waits ≡ false) → Serves m commands r0 r1 w0 w1 start now ended.Quit
  served_over r0 r1 a1 w0 w1 le adds written nothing no_fault calls passed = record {
    input = taken ++ unwrap_or a1 [];
    marks = reached.marks ++ [];
    adds = is_input r0.ahead a1 taken adds;
    all = prepend done (over now);
    is_session = over_after true (unwrap_or a1 []) le nothing;
    replies = rw append-nil written;
    state = refl;
    ends = refl;
    no_fault = no_fault;
    calls = calls_more commands taken (unwrap_or a1 []) r0.pulls r1.pulls calls;
    passed = passed;
  }

  pub stopped_reading : (pulls : ℕ) (r0 r1 : SourceMoment) (w0 w1 : SinkMoment) (bytes : List ℕ) → k < commands → first false bytes ≡ None → Consumes r0.ahead r1.ahead (taken ++ bytes) → Appends w0.written w1.written done → LacksInput pulls (taken ++ bytes) r0 r1 → w1.faults ≡ w0.faults → (w0.waits ≡ false → w1.waits ≡ false) → StopsReading m commands pulls r0 r1 w0 w1 start now
  stopped_reading pulls r0 r1 w0 w1 bytes lt none adds written cause no_fault passed =
      let rest : k + suc (commands - k - 1) ≡ commands = omega arith in
      record {
        input = taken ++ bytes;
        marks = reached.marks ++ [];
        adds = adds;
        unfinished = rw rest at (reached.opens (suc (commands - k - 1)) bytes (IsOpen.waits none));
        cause = cause;
        all = prepend done (over now);
        is_session = over_after false bytes (omega arith) (session_over m false (commands - k) now [] bytes none);
        replies = rw append-nil written;
        state = refl;
        no_fault = no_fault;
        passed = passed;
      }

  module _ (next : State) (reply bytes : List ℕ) (ends : Option Ended) (last marked : Bool) (turned : Turned m now next reply ends bytes last marked) where
    -- with one more turn, and what is left after it
    after_turn : (n : ℕ) (more : List ℕ) (all : Outcome) → IsSession m true n now (marked ∷ []) (bytes ++ more) all → IsSession m true (k + n) start (reached.marks ++ marked ∷ []) ((taken ++ bytes) ++ more) (prepend done all)
    after_turn n more all is = rw (append_assoc taken bytes more) (reached.step true n (marked ∷ []) (bytes ++ more) all is)

    module _ (r0 r1 : SourceMoment) (a1 : Option (List ℕ)) (w0 w1 : SinkMoment) (lt : k < commands) (adds : Consumes r0.ahead a1 (taken ++ bytes)) (at_end : last ≡ true → IsAtEnd a1) where
      follows : MayFollow last true (unwrap_or a1 [])
      follows e = (refl, none_left a1 (at_end e))

      -- .. of a session of so many commands
      all_turns : (all : Outcome) → IsSession m true (suc (commands - k - 1)) now (marked ∷ []) (bytes ++ unwrap_or a1 []) all → IsSession m true commands start (reached.marks ++ marked ∷ []) ((taken ++ bytes) ++ unwrap_or a1 []) (prepend done all)
      all_turns all is =
          let count : k + suc (commands - k - 1) ≡ commands = omega arith in
          subst (λ (n : ℕ). IsSession m true n start (reached.marks ++ marked ∷ []) ((taken ++ bytes) ++ unwrap_or a1 []) (prepend done all)) count (after_turn (suc (commands - k - 1)) (unwrap_or a1 []) all is)

      pub served_ends : (e : Ended) → ends ≡ Some e → Appends w0.written w1.written (done ++ reply) → (r1.faults ≡ r0.faults) × (w1.faults ≡ w0.faults) → Calls commands (taken ++ bytes) r0.pulls r1.pulls → (w0.waits ≡ false → w1.waits ≡ false) → Serves m commands r0 r1 w0 w1 start next e
      served_ends e some written no_fault calls passed = record {
        input = (taken ++ bytes) ++ unwrap_or a1 [];
        marks = reached.marks ++ marked ∷ [];
        adds = is_input r0.ahead a1 (taken ++ bytes) adds;
        all = prepend done (record { replies = reply; state = next; ended = e });
        is_session = all_turns (record { replies = reply; state = next; ended = e }) (turned.stops e some true (commands - k - 1) [] (unwrap_or a1 []) follows);
        replies = written;
        state = refl;
        ends = refl;
        no_fault = no_fault;
        calls = calls_more commands (taken ++ bytes) (unwrap_or a1 []) r0.pulls r1.pulls calls;
        passed = passed;
      }

      pub served_last : ends ≡ None → last ≡ true → Appends w0.written w1.written (done ++ reply) → (r1.faults ≡ r0.faults) × (w1.faults ≡ w0.faults) → Calls commands (taken ++ bytes) r0.pulls r1.pulls → (w0.waits ≡ false → w1.waits ≡ false) → Serves m commands r0 r1 w0 w1 start next ended.Quit
      served_last none is_last written no_fault calls passed =
          let nothing : first true (unwrap_or a1 []) ≡ None = ap (first true) (none_left a1 (at_end is_last)) ∙ first-nil true in
          record {
            input = (taken ++ bytes) ++ unwrap_or a1 [];
            marks = reached.marks ++ marked ∷ [];
            adds = is_input r0.ahead a1 (taken ++ bytes) adds;
            all = prepend done (prepend reply (over next));
            is_session = all_turns (prepend reply (over next)) (turned.goes none true (commands - k - 1) [] (unwrap_or a1 []) (over next) follows (session_over m true (commands - k - 1) next [] (unwrap_or a1 []) nothing));
            replies = rw append-nil written;
            state = refl;
            ends = refl;
            no_fault = no_fault;
            calls = calls_more commands (taken ++ bytes) (unwrap_or a1 []) r0.pulls r1.pulls calls;
            passed = passed;
          }

      -- the one turn, by itself
      record OneTurn : Type 0 where
        all : Outcome
        is_session : IsSession m true 1 now (marked ∷ []) (bytes ++ unwrap_or a1 []) all
        replies : all.replies ≡ reply
        state : all.state ≡ next

      one_turn : (is : Option Ended) → ends ≡ is → OneTurn
      one_turn None none = record {
        all = prepend reply (over next);
        is_session = turned.goes none true 0 [] (unwrap_or a1 []) (over next) follows (session-zero m true next [] (unwrap_or a1 []));
        replies = append-nil reply;
        state = refl;
      }
      one_turn (Some e) some = record {
        all = record { replies = reply; state = next; ended = e };
        is_session = turned.stops e some true 0 [] (unwrap_or a1 []) follows;
        replies = refl;
        state = refl;
      }

      pub stopped_writing : (part : List ℕ) → IsFront part reply → Appends w0.written w1.written (done ++ part) → w1.faults ≡ w0.faults + 1 → (part ≡ [] → w0.waits ≡ false → w1.waits ≡ false) → StopsWriting m commands r0 w0 w1 start next
      stopped_writing part front written fault passed =
          let one = one_turn ends refl in
          let none_more : k + 0 ≡ k = omega arith in
          let before : (prepend done (over now)).replies ≡ done = append-nil done in
          record {
            input = (taken ++ bytes) ++ unwrap_or a1 [];
            marks = reached.marks ++ marked ∷ [];
            count = k;
            in_range = lt;
            adds = is_input r0.ahead a1 (taken ++ bytes) adds;
            before_it = prepend done (over now);
            with_it = prepend done one.all;
            is_before = subst (λ (n : ℕ). IsSession m true n start (reached.marks ++ marked ∷ []) ((taken ++ bytes) ++ unwrap_or a1 []) (prepend done (over now))) none_more (after_turn 0 (unwrap_or a1 []) (over now) (session-zero m true now (marked ∷ []) (bytes ++ unwrap_or a1 [])));
            is_with = after_turn 1 (unwrap_or a1 []) one.all one.is_session;
            out = done ++ part;
            written = written;
            no_less = (part, ap (λ d. d ++ part) (sym before));
            no_more = (front.0, ap (λ r. done ++ r) (one.replies ∙ front.1) ∙ sym (append_assoc done part front.0));
            state = sym one.state;
            fault = fault;
            passed = λ none. passed (nothing_more done part (none ∙ before));
          }
