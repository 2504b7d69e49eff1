-- What clap's walk over the words makes of each of them.
use Rattle.std.proofs.Common.{suc, ◌==◌, ◌≡◌, ◌∙◌, ℕ, Bool, true, false, List, [], ◌∷◌, ◌++◌, length, Option, Some, None, is_some, refl, ap, subst, arith, codes, ◌||◌}
use Rattle.std.specs.Prelude.{slice_get}
use Rattle.std.specs.Str.{bytes_eq, IsUtf8, chars}
use Rattle.std.specs.Str.{encode_utf8_all}
use Rattle.std.proofs.lemmas.Str.{IsUtf8-drop, IsCharBoundary-after_ascii, encodes-chars}
use Rattle.clap.specs.Words.{App, Row, Rule, Shape, Text, built, first_of, new_app, new_rule, with_rule}
use Rattle.clap.specs.Lexer.{long_of, short_of}
use Rattle.clap.specs.Simple.{on_top}
use Rattle.clap.specs.Walk.{Held, Walk, Waiting, idle, option, positional, has_row, settled_rows, used, with_values, without, walked, reading_by}
use Rattle.clap.specs.Faults.{bundle_fault, settle_fault, turn_fault, flags_fault}
use Rattle.clap.specs.declared.error.kind.ErrorKind.TheVariants.{UnknownArgument}
use Rattle.adalib.specs.Words.{tick_word, two_hyphens}
use Rattle.clap.specs.declared.builder.action.ArgAction.TheVariants.{Set}
use Rattle.clap.specs.declared.parser.matches.ValueSource.TheVariants.{CommandLine}

abbrev pub tick_id : Text
tick_id = codes "tick"

abbrev pub file_id : Text
file_id = codes "file"

abbrev pub tick_rule : Rule
tick_rule = record (new_rule tick_id) { long = Some tick_id; action = Some Set }

abbrev pub file_rule : Rule
file_rule = record (new_rule file_id) { action = Some Set }

abbrev pub app : App
app = with_rule (with_rule (on_top (λ s. record s { disable_help_flag = true }) (new_app (codes "adalib"))) tick_rule) file_rule

abbrev pub shape : Shape
shape = (built app).top

abbrev pub rules : List Rule
rules = shape.rules

-- ---- rows

abbrev pub row : Text → Text → Row
row id value = record {
  id = id;
  values = value ∷ [];
  count = None;
  source = Some CommandLine;
  reading = reading_by tick_rule;
}

pub has_more : (id : Text) (rows : List Row) (r : Row) → has_row id (rows ++ r ∷ []) ≡ (has_row id rows || bytes_eq r.id id)
has_more id [] r = or_false (bytes_eq r.id id)
  where
    or_false : (b : Bool) → (b || false) ≡ b
    or_false true = refl
    or_false false = refl
has_more id (x ∷ rows) r = go (bytes_eq x.id id) refl (has_more id rows r)
  where
    go : (b : Bool) → bytes_eq x.id id ≡ b → has_row id (rows ++ r ∷ []) ≡ (has_row id rows || bytes_eq r.id id) → (bytes_eq x.id id || has_row id (rows ++ r ∷ [])) ≡ ((bytes_eq x.id id || has_row id rows) || bytes_eq r.id id)
    go true e rest = rw e refl
    go false e rest = rw e rest

pub first_added : (id : Text) (rows : List Row) (r : Row) → has_row id rows ≡ false → bytes_eq r.id id ≡ true → first_of id (rows ++ r ∷ []) ≡ slice_get r.values 0
first_added id [] r none here = rw here refl
first_added id (x ∷ rows) r none here = go (bytes_eq x.id id) refl (λ h. first_added id rows r h here)
  where
    go : (b : Bool) → bytes_eq x.id id ≡ b → (has_row id rows ≡ false → first_of id (rows ++ r ∷ []) ≡ slice_get r.values 0) → first_of id (x ∷ (rows ++ r ∷ [])) ≡ slice_get r.values 0
    go true e rest = let bad : true ≡ false = rw e at none in cc
    go false e rest = rw e (rest (rw e at none))

pub first_kept : (id : Text) (rows : List Row) (r : Row) → bytes_eq r.id id ≡ false → first_of id (rows ++ r ∷ []) ≡ first_of id rows
first_kept id [] r other = rw other refl
first_kept id (x ∷ rows) r other = go (bytes_eq x.id id) refl (first_kept id rows r other)
  where
    go : (b : Bool) → bytes_eq x.id id ≡ b → first_of id (rows ++ r ∷ []) ≡ first_of id rows → first_of id (x ∷ (rows ++ r ∷ [])) ≡ first_of id (x ∷ rows)
    go true e rest = rw e refl
    go false e rest = rw e rest

-- if there is no row with the name, one more is at the end
pub row_added : (id : Text) (rows : List Row) (value : Text) → has_row id rows ≡ false
    → with_values id (reading_by tick_rule) CommandLine (value ∷ []) (without id rows) ≡ rows ++ row id value ∷ []
row_added id [] value none = refl
row_added id (x ∷ rows) value none = go (bytes_eq x.id id) refl (row_added id rows value)
  where
    go : (b : Bool) → bytes_eq x.id id ≡ b
        → (has_row id rows ≡ false → with_values id (reading_by tick_rule) CommandLine (value ∷ []) (without id rows) ≡ rows ++ row id value ∷ [])
        → with_values id (reading_by tick_rule) CommandLine (value ∷ []) (without id (x ∷ rows)) ≡ x ∷ (rows ++ row id value ∷ [])
    go true e rest = let bad : true ≡ false = rw e at none in cc
    go false e rest = rw (e, e) (ap (λ rs. x ∷ rs) (rest (rw e at none)))

-- what the rows hold
pub record Holds (rows : List Row) (tick file : Option Text) : Type 0 where
  pub tick_is : first_of tick_id rows ≡ tick
  pub has_tick : has_row tick_id rows ≡ is_some tick
  pub file_is : first_of file_id rows ≡ file
  pub has_file : has_row file_id rows ≡ is_some file

pub with_tick : (rows : List Row) (value : Text) (file : Option Text) → Holds rows None file → Holds (rows ++ row tick_id value ∷ []) (Some value) file
with_tick rows value file h = record {
  tick_is = first_added tick_id rows (row tick_id value) h.has_tick refl;
  has_tick = has_more tick_id rows (row tick_id value) ∙ or_true (has_row tick_id rows);
  file_is = first_kept file_id rows (row tick_id value) refl ∙ h.file_is;
  has_file = has_more file_id rows (row tick_id value) ∙ or_false (has_row file_id rows) ∙ h.has_file;
}
  where
    or_true : (b : Bool) → (b || true) ≡ true
    or_true true = refl
    or_true false = refl

    or_false : (b : Bool) → (b || false) ≡ b
    or_false true = refl
    or_false false = refl

pub with_file : (rows : List Row) (value : Text) (tick : Option Text) → Holds rows tick None → Holds (rows ++ row file_id value ∷ []) tick (Some value)
with_file rows value tick h = record {
  tick_is = first_kept tick_id rows (row file_id value) refl ∙ h.tick_is;
  has_tick = has_more tick_id rows (row file_id value) ∙ or_false (has_row tick_id rows) ∙ h.has_tick;
  file_is = first_added file_id rows (row file_id value) h.has_file refl;
  has_file = has_more file_id rows (row file_id value) ∙ or_true (has_row file_id rows);
}
  where
    or_true : (b : Bool) → (b || true) ≡ true
    or_true true = refl
    or_true false = refl

    or_false : (b : Bool) → (b || false) ≡ b
    or_false true = refl
    or_false false = refl

-- ---- the place of the walk

abbrev pub held : List Row → Option (Text × List Text) → Held
held rows pending = record { rows = rows; pending = pending; skip = 0 }

abbrev pub place : Option Text → ℕ
place None = 1
place (Some file) = 2

abbrev pub free_walk : List Row → Option (Text × List Text) → Option Text → Bool → Walk
free_walk rows pending file trailing =
    record { held = held rows pending; waiting = idle; position = place file; is_trailing = trailing; stopped = None }

abbrev pub waiting_walk : List Row → Option Text → Bool → Walk
waiting_walk rows file trailing =
    record { held = held rows (Some (tick_id, [])); waiting = option tick_id; position = place file; is_trailing = trailing; stopped = None }

abbrev pub rows_then : List Row → Option (Text × List Text) → List Row
rows_then rows pending = settled_rows rules pending rows

-- nothing was refused so far, and no option waits for its value
pub record IsFree (rows : List Row) (pending : Option (Text × List Text)) (tick file : Option Text) : Type 0 where
  pub rows_hold : Holds (rows_then rows pending) tick file
  pub no_fault : settle_fault rules false (held rows pending) ≡ []

pub tick_used : (rows : List Row) (value : Text) (file : Option Text) → Holds rows None file → used tick_rule (value ∷ []) rows ≡ rows ++ row tick_id value ∷ []
tick_used rows value file h = row_added tick_id rows value h.has_tick

pub starts_free : IsFree [] None None None
starts_free = record { rows_hold = record { tick_is = refl; has_tick = refl; file_is = refl; has_file = refl }; no_fault = refl }

-- after `--tick=N`
pub tick_taken : (rows : List Row) (value : Text) (file : Option Text) → Holds rows None file → IsFree (rows ++ row tick_id value ∷ []) None (Some value) file
tick_taken rows value file h = record { rows_hold = with_tick rows value file h; no_fault = refl }

-- after `--tick N`
pub tick_pending : (rows : List Row) (value : Text) (file : Option Text) → Holds rows None file → IsFree rows (Some (tick_id, value ∷ [])) (Some value) file
tick_pending rows value file h = record {
  rows_hold = rw (row_added tick_id rows value h.has_tick) (with_tick rows value file h);
  no_fault = rw h.has_tick refl;
}

-- after the file
pub file_pending : (rows : List Row) (value : Text) (tick : Option Text) → Holds rows tick None → IsFree rows (Some (file_id, value ∷ [])) tick (Some value)
file_pending rows value tick h = record {
  rows_hold = rw (row_added file_id rows value h.has_file) (with_file rows value tick h);
  no_fault = rw h.has_file refl;
}

-- ---- the walk over one word, if no option waits

pub past_hyphens : (rows : List Row) (pending : Option (Text × List Text)) (file : Option Text)
    → (walked rules [] (free_walk rows pending file false) two_hyphens ≡ free_walk rows pending file true)
    × (turn_fault shape [] (free_walk rows pending file false) two_hyphens ≡ [])
unfolding walked
past_hyphens rows pending file = (refl, refl)

pub past_joined : (rows : List Row) (pending : Option (Text × List Text)) (file : Option Text) (value : Text) → IsFree rows pending None file
    → (walked rules [] (free_walk rows pending file false) (tick_word ++ 61 ∷ value) ≡ free_walk (rows_then rows pending ++ row tick_id value ∷ []) None file false)
    × (turn_fault shape [] (free_walk rows pending file false) (tick_word ++ 61 ∷ value) ≡ [])
unfolding walked
past_joined rows pending file value h = (
  ap (λ rs. free_walk rs None file false) (row_added tick_id (rows_then rows pending) value h.rows_hold.has_tick),
  rw (h.no_fault, h.rows_hold.has_tick) refl,
)

pub joined_again : (rows : List Row) (pending : Option (Text × List Text)) (tick : Text) (file : Option Text) (value : Text) → IsFree rows pending (Some tick) file
    → turn_fault shape [] (free_walk rows pending file false) (tick_word ++ 61 ∷ value) ≡ [] → ⊥
unfolding walked
joined_again rows pending tick file value h none = let bad = rw (h.no_fault, h.rows_hold.has_tick) at none in cc

pub past_tick : (rows : List Row) (pending : Option (Text × List Text)) (tick file : Option Text) → IsFree rows pending tick file
    → (walked rules [] (free_walk rows pending file false) tick_word ≡ waiting_walk (rows_then rows pending) file false)
    × (turn_fault shape [] (free_walk rows pending file false) tick_word ≡ [])
unfolding walked
past_tick rows pending tick file h = (refl, rw h.no_fault refl)

pub past_name : (rows : List Row) (pending : Option (Text × List Text)) (tick : Option Text) (word : Text) → IsFree rows pending tick None
    → bytes_eq word two_hyphens ≡ false → long_of word ≡ None → short_of word ≡ None
    → (walked rules [] (free_walk rows pending None false) word ≡ free_walk (rows_then rows pending) (Some (file_id, word ∷ [])) (Some word) false)
    × (turn_fault shape [] (free_walk rows pending None false) word ≡ [])
unfolding walked
past_name rows None tick word h a b c = rw (a, b, c) (refl, refl)
past_name rows (Some p) tick word h a b c = go (bytes_eq p.0 file_id) refl
  where
    go : (mine : Bool) → bytes_eq p.0 file_id ≡ mine
        → (walked rules [] (free_walk rows (Some p) None false) word ≡ free_walk (rows_then rows (Some p)) (Some (file_id, word ∷ [])) (Some word) false)
        × (turn_fault shape [] (free_walk rows (Some p) None false) word ≡ [])
    go true e = (rw (a, b, c, e) refl, rw (a, b, c, e, h.no_fault) refl)
    go false e = (rw (a, b, c, e) refl, rw (a, b, c, e, h.no_fault) refl)

pub past_last_name : (rows : List Row) (pending : Option (Text × List Text)) (tick : Option Text) (word : Text) → IsFree rows pending tick None
    → (walked rules [] (free_walk rows pending None true) word ≡ free_walk (rows_then rows pending) (Some (file_id, word ∷ [])) (Some word) true)
    × (turn_fault shape [] (free_walk rows pending None true) word ≡ [])
unfolding walked
past_last_name rows None tick word h = (refl, refl)
past_last_name rows (Some p) tick word h = go (bytes_eq p.0 file_id) refl
  where
    go : (mine : Bool) → bytes_eq p.0 file_id ≡ mine
        → (walked rules [] (free_walk rows (Some p) None true) word ≡ free_walk (rows_then rows (Some p)) (Some (file_id, word ∷ [])) (Some word) true)
        × (turn_fault shape [] (free_walk rows (Some p) None true) word ≡ [])
    go true e = (rw e refl, rw (e, h.no_fault) refl)
    go false e = (rw e refl, rw (e, h.no_fault) refl)

pub name_again : (rows : List Row) (pending : Option (Text × List Text)) (file : Text) (word : Text)
    → bytes_eq word two_hyphens ≡ false → long_of word ≡ None → short_of word ≡ None
    → turn_fault shape [] (free_walk rows pending (Some file) false) word ≡ [] → ⊥
unfolding walked
name_again rows pending file word a b c none = let bad = rw (a, b, c) at none in cc

pub last_name_again : (rows : List Row) (pending : Option (Text × List Text)) (file : Text) (word : Text)
    → turn_fault shape [] (free_walk rows pending (Some file) true) word ≡ [] → ⊥
unfolding walked
last_name_again rows pending file word none = cc

-- ---- words that are refused wherever the walk is

abbrev pub at : Held → Waiting → ℕ → Walk
at h waiting position = record { held = h; waiting = waiting; position = position; is_trailing = false; stopped = None }

pub other_option : (h : Held) (waiting : Waiting) (position : ℕ) (word name : Text) (value : Option Text)
    → bytes_eq word two_hyphens ≡ false → long_of word ≡ Some (name, value) → bytes_eq tick_id name ≡ false
    → turn_fault shape [] (at h waiting position) word ≡ [] → ⊥
other_option h idle position word name value a b c none = let bad = rw (a, b, c) at none in cc
other_option h (option id) position word name value a b c none = let bad = rw (a, b, c) at none in cc
other_option h positional position word name value a b c none = let bad = rw (a, b, c) at none in cc

short_fault : (flags : Text) (c : ℕ) (cs : List ℕ) (rows : List Row) (pending : Option (Text × List Text)) → chars flags ≡ c ∷ cs
    → (n : ℕ) → length flags ≡ suc n → bundle_fault rules false flags (held rows pending) ≡ UnknownArgument ∷ []
unfolding flags_fault
short_fault flags c cs rows pending are n long = rw (long, are) refl

spelled : (first : ℕ) (rest : Text) → IsUtf8 (45 ∷ first ∷ rest) → (c : ℕ) × (cs : List ℕ) × (chars (first ∷ rest) ≡ c ∷ cs)
spelled first rest utf8 = go (chars (first ∷ rest)) refl
  where
    later : IsUtf8 (first ∷ rest)
    later = IsUtf8-drop (45 ∷ first ∷ rest) 1 utf8 (IsCharBoundary-after_ascii (45 ∷ first ∷ rest) 0 utf8 (omega arith) (omega arith))

    go : (cs : List ℕ) → chars (first ∷ rest) ≡ cs → (c : ℕ) × (more : List ℕ) × (chars (first ∷ rest) ≡ c ∷ more)
    go [] e = let bad : [] ≡ first ∷ rest = subst (λ x. encode_utf8_all x ≡ first ∷ rest) e (encodes-chars (first ∷ rest) later) in cc
    go (c ∷ cs) e = (c, cs, e)

pub short_option : (rows : List Row) (pending : Option (Text × List Text)) (waiting : Waiting) (position first : ℕ) (rest : Text)
    → IsUtf8 (45 ∷ first ∷ rest) → (first == 45) ≡ false
    → turn_fault shape [] (at (held rows pending) waiting position) (45 ∷ first ∷ rest) ≡ [] → ⊥
short_option rows pending idle position first rest utf8 other none =
    let e = short_fault (first ∷ rest) (spelled first rest utf8).0 (spelled first rest utf8).1 rows pending (spelled first rest utf8).2 (length rest) refl in
    let bad = rw (other, other, e) at none in cc
short_option rows pending (option id) position first rest utf8 other none =
    let e = short_fault (first ∷ rest) (spelled first rest utf8).0 (spelled first rest utf8).1 rows pending (spelled first rest utf8).2 (length rest) refl in
    let bad = rw (other, other, e) at none in cc
short_option rows pending positional position first rest utf8 other none =
    let e = short_fault (first ∷ rest) (spelled first rest utf8).0 (spelled first rest utf8).1 rows pending (spelled first rest utf8).2 (length rest) refl in
    let bad = rw (other, other, e) at none in cc

-- ---- the walk if --tick waits for its number

pub waits_on : (rows : List Row) (file : Option Text)
    → walked rules [] (waiting_walk rows file false) two_hyphens ≡ waiting_walk rows file true
unfolding walked
waits_on rows file = refl

pub tick_twice : (rows : List Row) (file : Option Text)
    → turn_fault shape [] (waiting_walk rows file false) tick_word ≡ [] → ⊥
unfolding walked
tick_twice rows file none = cc

pub joined_for_number : (rows : List Row) (file : Option Text) (value : Text)
    → turn_fault shape [] (waiting_walk rows file false) (tick_word ++ 61 ∷ value) ≡ [] → ⊥
unfolding walked
joined_for_number rows file value none = cc

pub past_number : (rows : List Row) (file : Option Text) (word : Text)
    → bytes_eq word two_hyphens ≡ false → long_of word ≡ None → short_of word ≡ None
    → (walked rules [] (waiting_walk rows file false) word ≡ free_walk rows (Some (tick_id, word ∷ [])) file false)
    × (turn_fault shape [] (waiting_walk rows file false) word ≡ [])
unfolding walked
past_number rows file word a b c = rw (a, b, c) (refl, refl)

-- ---- walks that come to an error, whatever words are left

-- `--tick` for the second time, or without its number
pub data Doomed : Walk → Type 0 where
  again : (rows : List Row) (file : Option Text) → has_row tick_id rows ≡ true → Doomed (waiting_walk rows file false)
  again_with : (rows : List Row) (value : Text) (file : Option Text) (trailing : Bool) → has_row tick_id rows ≡ true
      → Doomed (free_walk rows (Some (tick_id, value ∷ [])) file trailing)
  cut_off : (rows : List Row) (file : Option Text) → Doomed (waiting_walk rows file true)

pub ends_in_a_fault : (w : Walk) → Doomed w → settle_fault rules false w.held ≡ [] → ⊥
ends_in_a_fault w (again rows file has) none = cc
ends_in_a_fault w (again_with rows value file trailing has) none = let bad = rw has at none in cc
ends_in_a_fault w (cut_off rows file) none = cc
