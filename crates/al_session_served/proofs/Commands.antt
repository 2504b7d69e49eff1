-- Which commands the bytes that were read are.
use Rattle.std.proofs.Common.{◌≡◌, ◌≢◌, ℕ, ◌+◌, ◌<◌, ◌≤◌, Bool, true, false, cond, eqb, ltb, List, [], ◌∷◌, ◌++◌, length, take, drop, Option, Some, None, Ok, not, refl, sym, ap, ◌∙◌, append_assoc, append-nil, arith, inl, inr, length-append}
use Rattle.std.specs.Prelude.{slice_index}
use Rattle.std.proofs.lemmas.Bool.{cases_lt}
use Rattle.std.proofs.lemmas.Bool.Decides.{nat_tests}
use Rattle.std.proofs.lemmas.List.{take_at, drop_at, get_or_at, get_or_append_left, length-take, length_push, take-append-drop, length-take-le, take_all}
use Rattle.al_session_served.specs.declared.line.OneLine.{OneLine}
use Rattle.al_session_served.specs.declared.line.OneLine.TheVariants as simple
use Rattle.al_session_served.specs.Lines.{Command, Put, BadLength, LineKind, PutLine, WholeLine, Bad, line_of, after_line, after_put, by_cut, first, by_words, words_of}
use Rattle.al_session_stream.specs.Cuts.{cut_at}
use Rattle.al_session_served.specs.LineSeen.{simple_model}
use Rattle.al_session_served.specs.Library.{State, Meaning}
use Rattle.al_session_served.specs.declared.serving.Ended.{Ended}
use Rattle.al_session_served.specs.declared.serving.Ended.TheVariants as ended
use Rattle.al_session_stream.specs.Input.{Moment}
use Rattle.al_base.specs.declared.refusal.Refusal.TheVariants.{BadLength as BadLengthRefusal}
use Rattle.al_session_served.specs.Replies.{refused}
use Rattle.al_session_stream.specs.Reading.{IsLine, ReadsLine}
use Rattle.al_session_served.specs.Acting.{left_by, IsCommand, IsText, WantsPulls, WantsPullsForText, ActsOn, ActsOnRest, AnswersAndEnds, StopsShort, StopsInText}
use Rattle.al_session_stream.proofs.Moments.{reads_then, stops_then}
use Rattle.al_session_stream.proofs.Cuts.{cut_at_found}

-- the first bytes of a line say what it says
pub line_of_kept : (bytes : List ℕ) → line_of (take 601 bytes) ≡ line_of bytes
unfolding line_of
line_of_kept bytes = elim (cases_lt 600 (length bytes)) [
  | inr short ↦ ap line_kind (take_all 601 bytes (omega arith))
  | inl long ↦ let one : ltb 600 (length (take 601 bytes)) ≡ true = grind (arith, nat_tests, length-take 601 bytes) in let two : ltb 600 (length bytes) ≡ true = grind (arith, nat_tests) in rw (one, two) refl
]
  where
    line_kind : List ℕ → LineKind
    line_kind line = cond (ltb 600 (length line)) (WholeLine Bad) (by_words (words_of line))

-- a whole line, and what comes after it
pub first_line : (at_end : Bool) (bytes more : List ℕ) → cut_at 10 bytes ≡ None → first at_end ((bytes ++ 10 ∷ []) ++ more) ≡ after_line at_end (line_of bytes) more
unfolding first
first_line at_end bytes more none = rw append_assoc (rw (cut_at_found 10 bytes more none) refl)

-- the last line
pub first_last : (bytes : List ℕ) → cut_at 10 bytes ≡ None → 0 < length bytes → first true bytes ≡ after_line true (line_of bytes) []
unfolding first
first_last [] none some = absurd (omega arith)
first_last (b ∷ bs) none some = ap (by_cut true (b ∷ bs)) none

-- a prefix of the line
pub first_open : (bytes : List ℕ) → cut_at 10 bytes ≡ None → first false bytes ≡ None
unfolding first
first_open bytes none = ap (by_cut false bytes) none

left_by_simple : (s : OneLine) (more : List ℕ) → left_by (simple_model s) more ≡ more
left_by_simple (simple.Delete name) more = refl
left_by_simple (simple.Rename old new) more = refl
left_by_simple (simple.Build unit) more = refl
left_by_simple (simple.Run steps) more = refl
left_by_simple (simple.Report subject) more = refl
left_by_simple simple.ReportUnits more = refl
left_by_simple simple.ReportObsolete more = refl
left_by_simple simple.Quit more = refl
left_by_simple simple.Bad more = refl

module _ (bytes line : List ℕ) (is_line : IsLine bytes line) where
  kind_of : (kind : LineKind) → kind ≡ line_of line → line_of bytes ≡ kind
  kind_of kind is = sym (line_of_kept bytes) ∙ ap line_of (sym is_line.kept) ∙ sym is

  -- what follows the line makes the command
  pub command_from_text : (kind : LineKind) (text : List ℕ) (command : Command) (last : Bool) → kind ≡ line_of line → IsText kind text command last → IsCommand ((bytes ++ 10 ∷ []) ++ text) command last
  command_from_text kind text command last is is_text = record {
    is_first = λ at_end more follows.
        rw (append_assoc (bytes ++ 10 ∷ []) text more)
        (first_line at_end bytes (text ++ more) is_line.no_end ∙ ap (λ k. after_line at_end k (text ++ more)) (kind_of kind is) ∙ is_text.is_rest at_end more follows);
  }

  pub open_from_text : (kind : LineKind) (text : List ℕ) → kind ≡ line_of line → after_line false kind text ≡ None → first false ((bytes ++ 10 ∷ []) ++ text) ≡ None
  open_from_text kind text is none = first_line false bytes text is_line.no_end ∙ ap (λ k. after_line false k text) (kind_of kind is) ∙ none

  pub wants_from_text : (kind : LineKind) (text : List ℕ) (last : Bool) (most : ℕ) → kind ≡ line_of line → WantsPullsForText kind text last most → WantsPulls ((bytes ++ 10 ∷ []) ++ text) last (length bytes + 1 + most)
  wants_from_text kind text last most is wants = record {
    early = (bytes ++ 10 ∷ []) ++ wants.early;
    late = wants.late;
    parts = ap (λ t. (bytes ++ 10 ∷ []) ++ t) wants.parts ∙ sym (append_assoc (bytes ++ 10 ∷ []) wants.early wants.late);
    unfinished = open_from_text kind wants.early is wants.unfinished;
    count = omega (arith, length-append (bytes ++ 10 ∷ []) wants.early, length_push bytes 10, wants.count);
    one_more = λ e. omega (arith, length-append (bytes ++ 10 ∷ []) text, length_push bytes 10, wants.one_more e);
  }

  pub wants_line : WantsPulls (bytes ++ 10 ∷ []) false (length bytes + 1)
  wants_line = record { early = bytes; late = 10 ∷ []; parts = refl; unfinished = first_open bytes is_line.no_end; count = refl; one_more = λ e. length_push bytes 10 }

  pub wants_end : WantsPulls bytes true (length bytes + 1)
  wants_end = record { early = bytes; late = []; parts = sym (append-nil bytes); unfinished = first_open bytes is_line.no_end; count = refl; one_more = λ e. cc }

  -- a line that needs nothing after it
  pub command_whole : (kind : LineKind) (command : Command) → kind ≡ line_of line → ((at_end : Bool) (more : List ℕ) → after_line at_end kind more ≡ Some (command, left_by command more)) → IsCommand (bytes ++ 10 ∷ []) command false
  command_whole kind command is all = record {
    is_first = λ at_end more follows. first_line at_end bytes more is_line.no_end ∙ ap (λ k. after_line at_end k more) (kind_of kind is) ∙ all at_end more;
  }

  -- the last line
  pub command_last : (kind : LineKind) (command : Command) → kind ≡ line_of line → 0 < length bytes → after_line true kind [] ≡ Some (command, left_by command []) → IsCommand bytes command true
  command_last kind command is some here = record {
    is_first = λ at_end more follows.
        let at = follows refl in
        rw (at.0, at.1, append-nil bytes) (first_last bytes is_line.no_end some ∙ ap (λ k. after_line true k []) (kind_of kind is) ∙ here);
  }

pub simple_whole : (s : OneLine) (at_end : Bool) (more : List ℕ) → after_line at_end (WholeLine (simple_model s)) more ≡ Some (simple_model s, left_by (simple_model s) more)
simple_whole s at_end more = ap (λ rest. Some (simple_model s, rest)) (sym (left_by_simple s more))

drop_after : (text more : List ℕ) (n : ℕ) → length text ≡ n → drop (n + 1) (text ++ 10 ∷ more) ≡ more
drop_after text more n count = rw (← append_assoc text (10 ∷ []) more) (drop_at (text ++ 10 ∷ []) more (n + 1) (grind (arith, length-append text (10 ∷ []))))

-- the bytes of a put
module _ (name : List ℕ) (len : ℕ) where
  pub text_whole : (text : List ℕ) → length text ≡ len → IsText (PutLine name len) (text ++ 10 ∷ []) (Put name text) false
  unfolding after_put
  text_whole text count = record { is_rest = λ at_end more follows. rw append_assoc (whole at_end more) }
    where
      whole : (at_end : Bool) (more : List ℕ) → after_put at_end name len (text ++ 10 ∷ more) ≡ Some (Put name text, more)
      whole at_end more =
          let enough : ltb len (length (text ++ 10 ∷ more)) ≡ true = grind (arith, nat_tests, length-append text (10 ∷ more)) in
          let line_end : slice_index (text ++ 10 ∷ more) len ≡ 10 = get_or_at text 10 more 0 len count in
          let front : take len (text ++ 10 ∷ more) ≡ text = take_at text (10 ∷ more) len count in
          let back : drop (len + 1) (text ++ 10 ∷ more) ≡ more = drop_after text more len count in
          rw (enough, line_end, front, back) refl

  pub text_short : (text : List ℕ) → length text ≤ len → IsText (PutLine name len) text BadLength true
  unfolding after_put
  text_short text short = record { is_rest = λ at_end more follows. let at = follows refl in rw (at.0, at.1, append-nil text) here }
    where
      here : after_put true name len text ≡ Some (BadLength, [])
      here = let few : ltb len (length text) ≡ false = grind (arith, nat_tests) in rw few refl

  pub text_bad : (text : List ℕ) → length text ≡ len + 1 → slice_index text len ≢ 10 → IsText (PutLine name len) text BadLength false
  unfolding after_put
  text_bad text count differs = record { is_rest = λ at_end more follows. here at_end more }
    where
      here : (at_end : Bool) (more : List ℕ) → after_put at_end name len (text ++ more) ≡ Some (BadLength, [])
      here at_end more =
          let enough : ltb len (length (text ++ more)) ≡ true = grind (arith, nat_tests, length-append text more) in
          let same : slice_index (text ++ more) len ≡ slice_index text len = get_or_append_left text more 0 len (omega arith) in
          let no_end : eqb (slice_index (text ++ more) len) 10 ≡ false = grind (arith, nat_tests) in
          rw (enough, no_end) refl

  pub text_open : (text : List ℕ) → length text ≤ len → after_put false name len text ≡ None
  unfolding after_put
  text_open text short = let few : ltb len (length text) ≡ false = grind (arith, nat_tests) in rw few refl

  pub wants_text : (text : List ℕ) → length text ≡ len → WantsPullsForText (PutLine name len) (text ++ 10 ∷ []) false (len + 1)
  wants_text text count = record {
    early = text;
    late = 10 ∷ [];
    parts = refl;
    unfinished = text_open text (omega arith);
    count = omega arith;
    one_more = λ e. omega (arith, length_push text 10);
  }

  pub wants_end_in_text : (text : List ℕ) → length text ≤ len → WantsPullsForText (PutLine name len) text true (length text + 1)
  wants_end_in_text text short = record { early = text; late = []; parts = sym (append-nil text); unfinished = text_open text short; count = refl; one_more = λ e. cc }

  pub wants_line_end : (text : List ℕ) → length text ≡ len + 1 → WantsPullsForText (PutLine name len) text false (len + 1)
  wants_line_end text count =
      let early : length (take len text) ≡ len = length-take-le len text (omega arith) in
      record {
        early = take len text;
        late = drop len text;
        parts = sym (take-append-drop len text);
        unfinished = text_open (take len text) (omega arith);
        count = omega arith;
        one_more = λ e. count;
      }

-- a put at the end of the input has no bytes
pub put_at_end : (name : List ℕ) (len : ℕ) → after_line true (PutLine name len) [] ≡ Some (BadLength, [])
unfolding after_put
put_at_end name len = let few : ltb len 0 ≡ false = grind (arith, nat_tests) in rw few refl

some_bytes : (bytes line : List ℕ) → IsLine bytes line → 0 < length line → 0 < length bytes
some_bytes [] line is_line some = let e = ap length is_line.kept in omega arith
some_bytes (b ∷ bytes) line is_line some = omega arith

-- a command of one line, with its line end or at the end of the input
pub acts_on_line : (m : Meaning) (old new : Moment) (line : List ℕ) (has_end : Bool) (kind : LineKind) (command : Command) → ReadsLine old new line (Ok has_end) → kind ≡ line_of line → (has_end ≡ false → 0 < length line) → ((at_end : Bool) (more : List ℕ) → after_line at_end kind more ≡ Some (command, left_by command more)) → (before after : State) (reply : List ℕ) (ends : Option Ended) (is_last : Bool) → AnswersAndEnds m before after reply ends command → (ends ≡ None → is_last ≡ not has_end) → ActsOn m old new before after reply ends is_last
acts_on_line m old new line true kind command read is some all before after reply ends is_last answers adds = record {
  command = command;
  bytes = read.0 ++ 10 ∷ [];
  last = false;
  most = length read.0 + 1;
  reads = read.2;
  wants = wants_line read.0 line read.1;
  is_command = command_whole read.0 line read.1 kind command is all;
  answers = answers;
  at_end = λ e. cc;
  adds = adds;
}
acts_on_line m old new line false kind command read is some all before after reply ends is_last answers adds = record {
  command = command;
  bytes = read.0;
  last = true;
  most = length read.0 + 1;
  reads = read.2;
  wants = wants_end read.0 line read.1;
  is_command = command_last read.0 line read.1 kind command is (some_bytes read.0 line read.1 (some refl)) (all true []);
  answers = answers;
  at_end = λ _. read.3;
  adds = adds;
}

-- a put without a line end
pub acts_on_last_put : (m : Meaning) (old new : Moment) (line name : List ℕ) (len : ℕ) → ReadsLine old new line (Ok false) → PutLine name len ≡ line_of line → 0 < length line → (before after : State) (reply : List ℕ) (ends : Option Ended) (is_last : Bool) → (ends ≡ Some ended.BadLength) × (reply ≡ refused BadLengthRefusal) × (after ≡ before) → ActsOn m old new before after reply ends is_last
acts_on_last_put m old new line name len read is some before after reply ends is_last answers = record {
  command = BadLength;
  bytes = read.0;
  last = true;
  most = length read.0 + 1;
  reads = read.2;
  wants = wants_end read.0 line read.1;
  is_command = command_last read.0 line read.1 (PutLine name len) BadLength is (some_bytes read.0 line read.1 some) (put_at_end name len);
  answers = answers;
  at_end = λ _. read.3;
  adds = λ none. let e = answers.0 in cc;
}

-- a put and its bytes
pub acts_on_put : (m : Meaning) (old mid new : Moment) (line : List ℕ) (kind : LineKind) → ReadsLine old mid line (Ok true) → kind ≡ line_of line → (before after : State) (reply : List ℕ) (ends : Option Ended) (is_last : Bool) → is_last ≡ false → ActsOnRest m kind mid new before after reply ends → ActsOn m old new before after reply ends is_last
acts_on_put m old mid new line kind read is before after reply ends is_last not_last acted = record {
  command = acted.command;
  bytes = (read.0 ++ 10 ∷ []) ++ acted.bytes;
  last = acted.last;
  most = length read.0 + 1 + acted.most;
  reads = reads_then _ (omega arith) read.2 acted.reads;
  wants = wants_from_text read.0 line read.1 kind acted.bytes acted.last acted.most is acted.wants;
  is_command = command_from_text read.0 line read.1 kind acted.bytes acted.command acted.last is acted.is_text;
  answers = acted.answers;
  at_end = acted.at_end;
  adds = λ none. not_last ∙ sym (acted.goes_on none);
}

pub stops_in_put : (old mid new : Moment) (line name : List ℕ) (len : ℕ) → ReadsLine old mid line (Ok true) → PutLine name len ≡ line_of line → StopsInText name len mid new → StopsShort old new
stops_in_put old mid new line name len read is stopped = record {
  bytes = (read.0 ++ 10 ∷ []) ++ stopped.bytes;
  no_command = open_from_text read.0 line read.1 (PutLine name len) stopped.bytes is stopped.no_text;
  stops = stops_then (omega (arith, length_push read.0 10)) read.2 stopped.stops;
}
