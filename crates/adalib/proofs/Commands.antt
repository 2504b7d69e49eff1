-- What a parse by the program's command gives.
use Rattle.std.proofs.Common.{suc, zero, ◌≡◌, ◌∙◌, ap₂, codes, inl, inr, MatchOption, option_map, Bor, ℕ, Bool, true, false, List, [], ◌∷◌, Option, Some, None, is_some, refl, sym, ap, subst, arith, drop, map, string_bytes}
use Rattle.std.specs.Prelude.{fold}
use Rattle.std.specs.List.{All}
use Rattle.std.specs.Str.{IsUtf8}
use Rattle.std.specs.declared.string.String.{String}
use Rattle.std.proofs.lemmas.Str.{IsUtf8-string_bytes}
use Rattle.clap.specs.Words.{AddsArg, App, HasKind, HasMatchesOf, Kinds, Row, Text, app_of, fault_of, first_of, first_value, found_of, is_simple, is_simple_and_free, kind_of, matches_of, new_app, rule_of, with_rule}
use Rattle.clap.specs.declared.builder.command.Command.{Command}
use Rattle.clap.specs.declared.builder.command.Command.TheViews.{out-Command}
use Rattle.clap.specs.declared.builder.arg.Arg.{Arg}
use Rattle.clap.specs.declared.error.Error.{Error}
use Rattle.clap.specs.declared.error.kind.ErrorKind.TheVariants.{OutOfMemory}
use Rattle.clap.specs.declared.parser.matches.ArgMatches.{ArgMatches}
use Rattle.clap.proofs.WalkLemmas.{first_value-rows}
use Rattle.clap.specs.Kinds.{or_else}
use Rattle.clap.specs.Simple.{app_of_fields, built, entered, on_top}
use Rattle.clap.specs.Walk.{Walk, finished, has_row, with_default}
use Rattle.clap.specs.Faults.{check_fault, defaults_fault, entered_fault, settle_fault}
use Rattle.adalib.specs.Tick.{tick_of}
use Rattle.adalib.specs.Words.{Written, tick_told}
use Rattle.adalib.proofs.Walks.{app, file_id, free_walk, rows_then, rules, shape, starts_free, tick_id, tick_rule, file_rule}
use Rattle.adalib.proofs.Readings.{both_empty, end_of, sound, taken}

pub all_utf8 : {Z : Type 0} (words : List (String Z)) → All IsUtf8 (map (string_bytes {Z = Z}) words)
all_utf8 [] k d lt = absurd (omega arith)
all_utf8 (word ∷ words) zero d lt = IsUtf8-string_bytes word
all_utf8 (word ∷ words) (suc k) d lt = all_utf8 words k d (omega arith)

no_defaults : (rows : List Row) → defaults_fault rows rules ≡ []
unfolding defaults_fault
no_defaults rows = go (has_row tick_id rows) (has_row file_id rows) refl refl
  where
    go : (a b : Bool) → has_row tick_id rows ≡ a → has_row file_id rows ≡ b → defaults_fault rows rules ≡ []
    go true true e f = rw (e, f) refl
    go true false e f = rw (e, f) refl
    go false true e f = rw (e, f) refl
    go false false e f = rw (e, f) refl

as_they_were : (rows : List Row) → fold with_default rows rules ≡ rows
as_they_were rows = go (has_row tick_id rows) (has_row file_id rows) refl refl
  where
    go : (a b : Bool) → has_row tick_id rows ≡ a → has_row file_id rows ≡ b → fold with_default rows rules ≡ rows
    go true true e f = rw (e, f) refl
    go true false e f = rw (e, f) refl
    go false true e f = rw (e, f) refl
    go false false e f = rw (e, f) refl

-- what a parse without an error takes
pub record Given (words : List Text) (number name : Option Text) : Type 0 where
  pub no_fault : fault_of app words ≡ []
  pub tick_is : first_of tick_id (matches_of app words) ≡ number
  pub file_is : first_of file_id (matches_of app words) ≡ name

-- words that are taken are written as they should be
pub written_as_taken : (words : List Text) → All IsUtf8 (drop 1 words) → fault_of app words ≡ []
    → Written (drop 1 words) (first_of tick_id (matches_of app words)) (first_of file_id (matches_of app words))
written_as_taken words utf8 none =
    let end = end_of (free_walk [] None None false) (drop 1 words) in
    let first = both_empty _ _ none in
    let second = both_empty _ _ first.1 in
    let third = both_empty _ _ second.1 in
    let said = sound (drop 1 words) [] None None None starts_free utf8 first.0 third.0 in
    let same : matches_of app words ≡ rows_then end.held.rows end.held.pending = as_they_were (rows_then end.held.rows end.held.pending) in
    let tick_is : first_of tick_id (matches_of app words) ≡ said.number = ap (first_of tick_id) same ∙ said.rows_hold.tick_is in
    let file_is : first_of file_id (matches_of app words) ≡ said.name = ap (first_of file_id) same ∙ said.rows_hold.file_is in
    subst (λ n. Written (drop 1 words) n (first_of file_id (matches_of app words))) (sym tick_is) (subst (λ n. Written (drop 1 words) said.number n) (sym file_is) said.written)

all_empty : (a b c d e : Kinds) → a ≡ [] → b ≡ [] → c ≡ [] → d ≡ [] → e ≡ [] → or_else a (or_else b (or_else c (or_else d e))) ≡ []
all_empty a b c d e ha hb hc hd he = rw (ha, hb, hc, hd, he) refl

nothing_required : (rows : List Row) (has : Bool) → has ≡ false → check_fault shape rows has ≡ []
nothing_required rows has none = rw none refl

-- words that are written as they should be are taken as they say
pub taken_as_written : (words : List Text) (number name : Option Text) → Written (drop 1 words) number name → Given words number name
taken_as_written words number name written =
    let end = end_of (free_walk [] None None false) (drop 1 words) in
    let t = taken (drop 1 words) number name written [] None None None starts_free tt tt in
    let same : matches_of app words ≡ rows_then t.rows_at_end t.pending_at_end =
    as_they_were (rows_then end.held.rows end.held.pending) ∙ ap (λ (w : Walk). rows_then w.held.rows w.held.pending) t.end_is in
    record {
      no_fault = all_empty _ _ _ _ _ t.no_fault (ap (λ (w : Walk). entered_fault (built app) w.stopped) t.end_is)
          (ap (λ (w : Walk). settle_fault rules false w.held) t.end_is ∙ t.is_free.no_fault) (no_defaults _)
          (nothing_required (finished rules end.held) _ (ap (λ (w : Walk). is_some (entered (built app) w.stopped)) t.end_is));
      tick_is = ap (first_of tick_id) same ∙ t.is_free.rows_hold.tick_is;
      file_is = ap (first_of file_id) same ∙ t.is_free.rows_hold.file_is;
    }

-- ---- the program's command

pub command_is : (plain flagged one two : Command) (a b : Arg) → app_of plain ≡ new_app (codes "adalib")
    → out-Command flagged ≡ record (out-Command plain) { disable_help_flag = true } → AddsArg flagged a one → AddsArg one b two
    → rule_of a ≡ tick_rule → rule_of b ≡ file_rule → a.global ≡ false → b.global ≡ false → app_of two ≡ app
command_is plain flagged one two a b new flag adds_a adds_b tick file a_local b_local =
    adds_b.shape b_local ∙ ap₂ with_rule (adds_a.shape a_local ∙ ap₂ with_rule (ap app_of_fields flag ∙ ap (on_top (λ s. record s { disable_help_flag = true })) new) tick) file

-- if the words are written as they should be, only memory can be refused
pub wants_memory : (command : Command) (words : List Text) (e : Error) → app_of command ≡ app
    → (is_simple_and_free (app_of command) ≡ true → HasKind (fault_of (app_of command) words) e)
    → (number name : Option Text) → Written (drop 1 words) number name → kind_of e ≡ OutOfMemory
wants_memory command words e made kinds number name written =
    let none : fault_of (app_of command) words ≡ [] = ap (λ (a : App). fault_of a words) made ∙ (taken_as_written words number name written).no_fault in
    let has : HasKind [] e = subst (λ (k : Kinds). HasKind k e) none (kinds (ap is_simple_and_free made)) in
    elim has [ inl h ↦ h | inr h ↦ absurd h ]

value_is : (command : Command) (words : List Text) (m : ArgMatches) (id : Text) → app_of command ≡ app → HasMatchesOf (app_of command) words m
    → first_value (found_of m) id ≡ first_of id (matches_of app words)
value_is command words m id made matches =
    first_value-rows (found_of m) id ∙ ap (first_of id) ((matches (ap is_simple made)).0 ∙ ap (λ (a : App). matches_of a words) made)

pub written_by : (command : Command) (words : List Text) (m : ArgMatches) → app_of command ≡ app → All IsUtf8 (drop 1 words)
    → (is_simple_and_free (app_of command) ≡ true → fault_of (app_of command) words ≡ []) → HasMatchesOf (app_of command) words m
    → Written (drop 1 words) (first_value (found_of m) tick_id) (first_value (found_of m) file_id)
written_by command words m made utf8 kinds matches =
    let none : fault_of app words ≡ [] = ap (λ (a : App). fault_of a words) (sym made) ∙ kinds (ap is_simple_and_free made) in
    subst (λ n. Written (drop 1 words) n (first_value (found_of m) file_id)) (sym (value_is command words m tick_id made matches))
    (subst (λ n. Written (drop 1 words) (first_of tick_id (matches_of app words)) n) (sym (value_is command words m file_id made matches)) (written_as_taken words utf8 none))

-- the word that is written for the tick is the one that was found
pub number_is : (command : Command) (words : List Text) (m : ArgMatches) → app_of command ≡ app → HasMatchesOf (app_of command) words m
    → (number name : Option Text) → Written (drop 1 words) number name → first_value (found_of m) tick_id ≡ number
number_is command words m made matches number name written =
    value_is command words m tick_id made matches ∙ (taken_as_written words number name written).tick_is

pub told_is : (word : Option (Bor Text)) (r : Option ℕ) → MatchOption word (r ≡ Some 100) (λ told. r ≡ tick_of told.now)
    → r ≡ tick_told (option_map (λ s. s.now) word)
told_is None r h = h
told_is (Some word) r h = h
