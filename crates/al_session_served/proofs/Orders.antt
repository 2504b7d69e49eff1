-- What holds of every session: what each command keeps, and that one input has one session.
use Rattle.std.proofs.Common.{◌≡◌, ℕ, zero, suc, Bool, true, false, ◌&&◌, List, Option, Some, None, refl, sym, ap, subst, ◌∙◌}
use Rattle.std.specs.List.Sorted.{IsStrictlySortedBy}
use Rattle.al_base.specs.FileLaws.{Ascend}
use Rattle.al_base.specs.Files.{Texts, with_file, without_file, with_renamed}
use Rattle.al_base.specs.declared.refusal.Refusal.{Refusal}
use Rattle.al_base.proofs.FileLaws.{Ascend-with_file, Ascend-without_file, rename_moves_one}
use Rattle.al_session_served.specs.Library.{State, LastBuild, LibraryMeaning, Meaning, IsSettled, empty, run_refusal, with_tick, after_build}
use Rattle.al_session_served.specs.Lines.{Command, Put, Delete, Rename, Build, Run, Quit, BadLength, first}
use Rattle.al_session_served.specs.Orders.{IsOrdered, SessionsAreOrdered, IsBuiltRight, BuildsAreRight, SessionsAreOne}
use Rattle.al_session_served.specs.Replies.{build_reply, run_reply}
use Rattle.al_session_served.specs.Session.{Outcome, IsEdited, IsRunReply, IsPlain, IsAnswerWhere, IsTurn, GoesOnAs, prepend, first_mark, other_marks, may_lack_memory, IsSession}

-- what each plain command keeps, every session keeps
module _ (m : Meaning) (P : State → Type 0) (keeps : (state after : State) (command : Command) (reply : List ℕ) → IsPlain m state command reply after → P state → P after) where
  answer_keeps : (lacks : Bool) (state after : State) (command : Command) (reply : List ℕ) → IsAnswerWhere m lacks state command reply after → P state → P after
  answer_keeps true state after command reply a p = subst P (sym a.1) p
  answer_keeps false state after command reply a p = keeps state after command reply a p

  abbrev Keeps : (State → List ℕ → Outcome → Type 0) → Type 0
  Keeps go = (state : State) (bytes : List ℕ) (all : Outcome) → go state bytes all → P state → P all.state

  rest_keeps : (go : State → List ℕ → Outcome → Type 0) → Keeps go → (command : Command) (reply : List ℕ) (after : State) (rest : List ℕ) (all : Outcome) → GoesOnAs go command reply after rest all → P after → P all.state
  rest_keeps go kept Quit reply after rest all is p = subst P (sym (ap (λ (o : Outcome). o.state) is)) p
  rest_keeps go kept BadLength reply after rest all is p = subst P (sym (ap (λ (o : Outcome). o.state) is)) p
  rest_keeps go kept other reply after rest all is p = subst P (sym (ap (λ (o : Outcome). o.state) is.2)) (kept after rest is.0 is.1 p)

  turn_keeps : (go : State → List ℕ → Outcome → Type 0) → Keeps go → (state : State) (marked : Bool) (next : Option (Command × List ℕ)) (all : Outcome) → IsTurn m go state marked next all → P state → P all.state
  turn_keeps go kept state marked None all is p = subst P (sym (ap (λ (o : Outcome). o.state) is)) p
  turn_keeps go kept state marked (Some (command, rest)) all is p = rest_keeps go kept command is.0 is.1 rest all is.3 (answer_keeps (marked && may_lack_memory state command) state is.1 command is.0 is.2 p)

  session_keeps : (at_end : Bool) (n : ℕ) (marks : List Bool) → Keeps (λ state bytes all. IsSession m at_end n state marks bytes all)
  unfolding IsSession
  session_keeps at_end zero marks state bytes all is p = subst P (sym (ap (λ (o : Outcome). o.state) is)) p
  session_keeps at_end (suc n) marks state bytes all is p =
      turn_keeps (λ after rest later. IsSession m at_end n after (other_marks marks) rest later) (session_keeps at_end n (other_marks marks)) state (first_mark marks) (first at_end bytes) all is p

edit_ordered : (state after : State) (r : Option Refusal) (files : Texts) (reply : List ℕ) → IsEdited state r files reply after → IsOrdered state → (r ≡ None → Ascend files) → IsOrdered after
edit_ordered state after None files reply a o ascend = subst IsOrdered (sym a.1) (record { now = ascend refl; built = o.built })
edit_ordered state after (Some r) files reply a o ascend = subst IsOrdered (sym a.1) o

plain_ordered : (m : Meaning) (state after : State) (command : Command) (reply : List ℕ) → IsPlain m state command reply after → IsOrdered state → IsOrdered after
plain_ordered m state after (Put name text) reply a o = edit_ordered state after _ (with_file state.now name text) reply a o (λ none. Ascend-with_file state.now name text o.now)
plain_ordered m state after (Delete name) reply a o = edit_ordered state after _ (without_file state.now name) reply a o (λ none. Ascend-without_file state.now name o.now)
plain_ordered m state after (Rename old new) reply a o = edit_ordered state after _ (with_renamed state.now old new) reply a o (λ none. (rename_moves_one state.now old new o.now none).ascend)
plain_ordered m state after (Build unit) reply a o = subst IsOrdered (sym a.3) (record { now = o.now; built = o.now })
plain_ordered m state after other reply a o = subst IsOrdered (sym a.1) o

empty_ordered : IsOrdered empty
unfolding IsStrictlySortedBy
empty_ordered = record { now = tt; built = tt }

pub sessions_are_ordered : (m : LibraryMeaning) → SessionsAreOrdered m
sessions_are_ordered m tick at_end commands marks bytes all is = session_keeps (with_tick m tick) IsOrdered (plain_ordered (with_tick m tick)) at_end commands marks empty bytes all is empty_ordered

edit_right : (m : Meaning) (state after : State) (r : Option Refusal) (files : Texts) (reply : List ℕ) → IsEdited state r files reply after → IsBuiltRight m.library state → IsBuiltRight m.library after
edit_right m state after None files reply a o = subst (IsBuiltRight m.library) (sym a.1) o
edit_right m state after (Some r) files reply a o = subst (IsBuiltRight m.library) (sym a.1) o

plain_right : (m : Meaning) (state after : State) (command : Command) (reply : List ℕ) → IsPlain m state command reply after → IsBuiltRight m.library state → IsBuiltRight m.library after
plain_right m state after (Put name text) reply a o = edit_right m state after _ _ reply a o
plain_right m state after (Delete name) reply a o = edit_right m state after _ _ reply a o
plain_right m state after (Rename old new) reply a o = edit_right m state after _ _ reply a o
plain_right m state after (Build unit) reply a o = subst (IsBuiltRight m.library) (sym a.3) a.1
plain_right m state after other reply a o = subst (IsBuiltRight m.library) (sym a.1) o

pub builds_are_right : (m : LibraryMeaning) → BuildsAreRight m
builds_are_right m tick at_end commands marks bytes all is = session_keeps (with_tick m tick) (IsBuiltRight m) (plain_right (with_tick m tick)) at_end commands marks empty bytes all is tt

-- an answer is one thing: the reply and the library
abbrev AreOne : List ℕ → List ℕ → State → State → Type 0
AreOne r1 r2 s1 s2 = (r1 ≡ r2) × (s1 ≡ s2)

one_edit : (state : State) (r : Option Refusal) (files : Texts) (r1 r2 : List ℕ) (s1 s2 : State) → IsEdited state r files r1 s1 → IsEdited state r files r2 s2 → AreOne r1 r2 s1 s2
one_edit state None files r1 r2 s1 s2 x y = (x.0 ∙ sym y.0, x.1 ∙ sym y.1)
one_edit state (Some r) files r1 r2 s1 s2 x y = (x.0 ∙ sym y.0, x.1 ∙ sym y.1)

module _ (m : Meaning) (settled : IsSettled m.library) where
  one_run : (steps : ℕ) (built : Option LastBuild) (r : Option Refusal) (r1 r2 : List ℕ) → IsRunReply m steps built r r1 → IsRunReply m steps built r r2 → r1 ≡ r2
  one_run steps built (Some r) r1 r2 x y = x ∙ sym y
  one_run steps None None r1 r2 x y = absurd x.1
  one_run steps (Some last) None r1 r2 x y = x.2 ∙ ap run_reply (settled.runs last.files last.main m.tick steps x.0 y.0 x.1 y.1) ∙ sym y.2

  one_build : (state : State) (unit : List ℕ) (r1 r2 : List ℕ) (s1 s2 : State) → IsPlain m state (Build unit) r1 s1 → IsPlain m state (Build unit) r2 s2 → AreOne r1 r2 s1 s2
  one_build state unit r1 r2 s1 s2 x y =
      let same : x.0 ≡ y.0 = settled.builds state.now unit x.0 y.0 x.1 y.1 in
      (x.2 ∙ ap (build_reply unit) same ∙ sym y.2, x.3 ∙ ap (after_build state unit) same ∙ sym y.3)

  one_plain : (state : State) (command : Command) (r1 r2 : List ℕ) (s1 s2 : State) → IsPlain m state command r1 s1 → IsPlain m state command r2 s2 → AreOne r1 r2 s1 s2
  one_plain state (Put name text) r1 r2 s1 s2 x y = one_edit state _ _ r1 r2 s1 s2 x y
  one_plain state (Delete name) r1 r2 s1 s2 x y = one_edit state _ _ r1 r2 s1 s2 x y
  one_plain state (Rename old new) r1 r2 s1 s2 x y = one_edit state _ _ r1 r2 s1 s2 x y
  one_plain state (Build unit) r1 r2 s1 s2 x y = one_build state unit r1 r2 s1 s2 x y
  one_plain state (Run steps) r1 r2 s1 s2 x y = (one_run steps state.built (run_refusal state.built) r1 r2 x.0 y.0, x.1 ∙ sym y.1)
  one_plain state other r1 r2 s1 s2 x y = (x.0 ∙ sym y.0, x.1 ∙ sym y.1)

  one_answer : (lacks : Bool) (state : State) (command : Command) (r1 r2 : List ℕ) (s1 s2 : State) → IsAnswerWhere m lacks state command r1 s1 → IsAnswerWhere m lacks state command r2 s2 → AreOne r1 r2 s1 s2
  one_answer true state command r1 r2 s1 s2 x y = (x.0 ∙ sym y.0, x.1 ∙ sym y.1)
  one_answer false state command r1 r2 s1 s2 x y = one_plain state command r1 r2 s1 s2 x y

  abbrev GoesOneWay : (State → List ℕ → Outcome → Type 0) → Type 0
  GoesOneWay go = (state : State) (bytes : List ℕ) (one two : Outcome) → go state bytes one → go state bytes two → one ≡ two

  one_rest : (go : State → List ℕ → Outcome → Type 0) → GoesOneWay go → (command : Command) (reply : List ℕ) (after : State) (rest : List ℕ) (one two : Outcome) → GoesOnAs go command reply after rest one → GoesOnAs go command reply after rest two → one ≡ two
  one_rest go same Quit reply after rest one two x y = x ∙ sym y
  one_rest go same BadLength reply after rest one two x y = x ∙ sym y
  one_rest go same other reply after rest one two x y = x.2 ∙ ap (prepend reply) (same after rest x.0 y.0 x.1 y.1) ∙ sym y.2

  one_turn : (go : State → List ℕ → Outcome → Type 0) → GoesOneWay go → (state : State) (marked : Bool) (next : Option (Command × List ℕ)) (one two : Outcome) → IsTurn m go state marked next one → IsTurn m go state marked next two → one ≡ two
  one_turn go same state marked None one two x y = x ∙ sym y
  one_turn go same state marked (Some (command, rest)) one two x y =
      let answers = one_answer (marked && may_lack_memory state command) state command x.0 y.0 x.1 y.1 x.2 y.2 in
      let there : GoesOnAs go command y.0 y.1 rest one = subst (λ (s : State). GoesOnAs go command y.0 s rest one) answers.1 (subst (λ (r : List ℕ). GoesOnAs go command r x.1 rest one) answers.0 x.3) in
      one_rest go same command y.0 y.1 rest one two there y.3

  one_session : (at_end : Bool) (n : ℕ) (marks : List Bool) → GoesOneWay (λ state bytes all. IsSession m at_end n state marks bytes all)
  unfolding IsSession
  one_session at_end zero marks state bytes one two x y = x ∙ sym y
  one_session at_end (suc n) marks state bytes one two x y =
      one_turn (λ after rest later. IsSession m at_end n after (other_marks marks) rest later) (one_session at_end n (other_marks marks)) state (first_mark marks) (first at_end bytes) one two x y

pub sessions_are_one : (m : LibraryMeaning) → IsSettled m → SessionsAreOne m
sessions_are_one m settled tick at_end commands state marks bytes one two x y = one_session (with_tick m tick) settled at_end commands marks state bytes one two x y
