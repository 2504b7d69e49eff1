-- Which words clap takes, and what it takes from them.
use Rattle.std.proofs.Common.{◌≡◌, Bool, true, false, List, [], ◌∷◌, ◌++◌, Option, Some, None, refl, sym, subst, arith, drop}
use Rattle.std.specs.Prelude.{fold}
use Rattle.std.specs.List.{All}
use Rattle.std.specs.Str.{bytes_eq, IsUtf8}
use Rattle.std.proofs.lemmas.List.Elements.{All-drop, All-get_or}
use Rattle.clap.specs.Words.{Kinds, Row, Text}
use Rattle.clap.specs.Kinds.{or_else}
use Rattle.clap.specs.Lexer.{long_of, short_of}
use Rattle.clap.specs.Walk.{idle, option, Walk, walked}
use Rattle.clap.specs.Faults.{settle_fault, turn_fault, walk_fault}
use Rattle.adalib.specs.Words.{Written, is_plain, tick_word, two_hyphens}
use Rattle.adalib.specs.Words.Written.{nothing, spaced, joined, named, ended, named_last}
use Rattle.adalib.proofs.Walks.{Doomed, Holds, IsFree, ends_in_a_fault, file_pending, free_walk, joined_again, joined_for_number, last_name_again, name_again, other_option, past_hyphens, past_joined, past_last_name, past_name, past_number, past_tick, place, row, rows_then, rules, shape, short_option, tick_id, file_id, tick_pending, tick_taken, tick_twice, waiting_walk, waits_on, held}
use Rattle.adalib.proofs.Walks.Doomed.{again, again_with, cut_off}
use Rattle.adalib.proofs.WordKinds.{Kind, kind_of, no_option}
use Rattle.adalib.proofs.WordKinds.Kind.{hyphens, tick_alone, tick_joined, unknown, short, plain}

pub both_empty : (a b : Kinds) → or_else a b ≡ [] → (a ≡ []) × (b ≡ [])
both_empty [] b e = (refl, e)
both_empty (k ∷ ks) b e = cc

abbrev pub end_of : Walk → List Text → Walk
end_of w words = fold (walked rules []) w words

-- the first word is no error, and none is in the others
parts : (w : Walk) (word : Text) (words : List Text) → walk_fault shape [] w (word ∷ words) ≡ []
    → (turn_fault shape [] w word ≡ []) × (walk_fault shape [] (walked rules [] w word) words ≡ [])
unfolding walk_fault
parts w word words e = both_empty (turn_fault shape [] w word) (walk_fault shape [] (walked rules [] w word) words) e

pub joins : (w : Walk) (word : Text) (words : List Text) → turn_fault shape [] w word ≡ [] → walk_fault shape [] (walked rules [] w word) words ≡ []
    → walk_fault shape [] w (word ∷ words) ≡ []
unfolding walk_fault
joins w word words a b = rw a b

pub no_words : (w : Walk) → walk_fault shape [] w [] ≡ []
unfolding walk_fault
no_words w = refl

first_utf8 : (word : Text) (words : List Text) → All IsUtf8 (word ∷ words) → IsUtf8 word
first_utf8 word words h = All-get_or IsUtf8 (word ∷ words) 0 [] (omega arith) h

rest_utf8 : (word : Text) (words : List Text) → All IsUtf8 (word ∷ words) → All IsUtf8 words
rest_utf8 word words h = All-drop IsUtf8 1 (word ∷ words) h

-- ---- walks that come to an error

next_doomed : (w : Walk) (word : Text) → Doomed w → IsUtf8 word → turn_fault shape [] w word ≡ [] → Doomed (walked rules [] w word)
unfolding walked
next_doomed w word (again rows file has) utf8 none = by (kind_of word) utf8 none
  where
    by : {word : Text} → Kind word → IsUtf8 word → turn_fault shape [] (waiting_walk rows file false) word ≡ [] → Doomed (walked rules [] (waiting_walk rows file false) word)
    by hyphens utf8 none = cut_off rows file
    by tick_alone utf8 none = absurd (tick_twice rows file none)
    by (tick_joined value) utf8 none = absurd (joined_for_number rows file value none)
    by (unknown word name value a b c) utf8 none = absurd (other_option (held rows (Some (tick_id, []))) (option tick_id) (place file) word name value a b c none)
    by (short first rest other) utf8 none = absurd (short_option rows (Some (tick_id, [])) (option tick_id) (place file) first rest utf8 other none)
    by (plain word is a b c) utf8 none = subst Doomed (sym (past_number rows file word a b c).0) (again_with rows word file false has)
next_doomed w word (again_with rows value file true has) utf8 none = at_end file none
  where
    at_end : (file : Option Text) → turn_fault shape [] (free_walk rows (Some (tick_id, value ∷ [])) file true) word ≡ [] → Doomed (walked rules [] (free_walk rows (Some (tick_id, value ∷ [])) file true) word)
    at_end None none = let bad = rw has at none in cc
    at_end (Some name) none = cc
next_doomed w word (again_with rows value file false has) utf8 none = by (kind_of word) utf8 none
  where
    name_met : (file : Option Text) (word : Text) → bytes_eq word two_hyphens ≡ false → long_of word ≡ None → short_of word ≡ None → turn_fault shape [] (free_walk rows (Some (tick_id, value ∷ [])) file false) word ≡ [] → ⊥
    name_met None word a b c none = let bad = rw (a, b, c, has) at none in cc
    name_met (Some name) word a b c none = let bad = rw (a, b, c) at none in cc

    by : {word : Text} → Kind word → IsUtf8 word → turn_fault shape [] (free_walk rows (Some (tick_id, value ∷ [])) file false) word ≡ [] → Doomed (walked rules [] (free_walk rows (Some (tick_id, value ∷ [])) file false) word)
    by hyphens utf8 none = again_with rows value file true has
    by tick_alone utf8 none = let bad = rw has at none in cc
    by (tick_joined number) utf8 none = let bad = rw has at none in cc
    by (unknown word name v a b c) utf8 none = absurd (other_option (held rows (Some (tick_id, value ∷ []))) idle (place file) word name v a b c none)
    by (short first rest other) utf8 none = absurd (short_option rows (Some (tick_id, value ∷ [])) idle (place file) first rest utf8 other none)
    by (plain word is a b c) utf8 none = absurd (name_met file word a b c none)
next_doomed w word (cut_off rows file) utf8 none = at_end file none
  where
    at_end : (file : Option Text) → turn_fault shape [] (waiting_walk rows file true) word ≡ [] → Doomed (walked rules [] (waiting_walk rows file true) word)
    at_end None none = cc
    at_end (Some name) none = cc

pub doomed : (words : List Text) (w : Walk) → Doomed w → All IsUtf8 words → walk_fault shape [] w words ≡ [] → settle_fault rules false (end_of w words).held ≡ [] → ⊥
doomed [] w h utf8 none last = ends_in_a_fault w h last
doomed (word ∷ words) w h utf8 none last =
    doomed words (walked rules [] w word) (next_doomed w word h (first_utf8 word words utf8) (parts w word words none).0) (rest_utf8 word words utf8) (parts w word words none).1 last

-- ---- words that are taken

abbrev pub either : Option Text → Option Text → Option Text
either None b = b
either (Some a) b = Some a

abbrev pub AtMostOne : Option Text → Option Text → Type 0
AtMostOne (Some a) (Some b) = ⊥
AtMostOne _ _ = Unit {0}

-- what the words say, after those that said `tick` and `file`
pub record Said (words : List Text) (tick file : Option Text) (end : Walk) : Type 0 where
  pub number : Option Text
  pub name : Option Text
  pub written : Written words number name
  pub one_number : AtMostOne tick number
  pub one_name : AtMostOne file name
  pub rows_hold : Holds (rows_then end.held.rows end.held.pending) (either tick number) (either file name)

alone : (a : Option Text) → AtMostOne a None
alone None = tt
alone (Some a) = tt

itself : (a : Option Text) → either a None ≡ a
itself None = refl
itself (Some a) = refl

nothing_more : (rows : List Row) (pending : Option (Text × List Text)) (tick file : Option Text) (trailing : Bool) → IsFree rows pending tick file
    → Holds (rows_then rows pending) (either tick None) (either file None)
nothing_more rows pending tick file trailing h = rw (itself tick, itself file) h.rows_hold

abbrev Sound : List Text → Type 0
Sound words = (rows : List Row) (pending : Option (Text × List Text)) (tick file : Option Text) → IsFree rows pending tick file → All IsUtf8 words
    → walk_fault shape [] (free_walk rows pending file false) words ≡ [] → settle_fault rules false (end_of (free_walk rows pending file false) words).held ≡ []
    → Said words tick file (end_of (free_walk rows pending file false) words)

-- after `--`
pub trailing_said : (words : List Text) (rows : List Row) (pending : Option (Text × List Text)) (tick file : Option Text) → IsFree rows pending tick file
    → walk_fault shape [] (free_walk rows pending file true) words ≡ []
    → Said (two_hyphens ∷ words) tick file (end_of (free_walk rows pending file true) words)
trailing_said [] rows pending tick file h none = record {
  number = None;
  name = None;
  written = ended;
  one_number = alone tick;
  one_name = alone file;
  rows_hold = nothing_more rows pending tick file true h;
}
trailing_said (word ∷ []) rows pending tick (Some file) h none = absurd (last_name_again rows pending file word (parts _ word [] none).0)
trailing_said (word ∷ []) rows pending tick None h none =
    let step = past_last_name rows pending tick word h in
    let now = file_pending (rows_then rows pending) word tick h.rows_hold in
    record {
      number = None;
      name = Some word;
      written = named_last word;
      one_number = alone tick;
      one_name = tt;
      rows_hold = rw (step.0, itself tick) now.rows_hold;
    }
trailing_said (word ∷ next ∷ words) rows pending tick (Some file) h none = absurd (last_name_again rows pending file word (parts _ word (next ∷ words) none).0)
trailing_said (word ∷ next ∷ words) rows pending tick None h none =
    let step = past_last_name rows pending tick word h in
    let later = subst (λ w. walk_fault shape [] w (next ∷ words) ≡ []) step.0 (parts (free_walk rows pending None true) word (next ∷ words) none).1 in
    absurd (last_name_again (rows_then rows pending) (Some (file_id, word ∷ [])) word next (parts (free_walk (rows_then rows pending) (Some (file_id, word ∷ [])) (Some word) true) next words later).0)

only_one : (a : Text) (b : Option Text) → AtMostOne (Some a) b → b ≡ None
only_one a None h = refl
only_one a (Some b) h = absurd h

with_number : (words : List Text) (number : Text) (file : Option Text) → is_plain number ≡ true → {end : Walk} → Said words (Some number) file end → Said (tick_word ∷ number ∷ words) None file end
with_number words number file is said = record {
  number = Some number;
  name = said.name;
  written = spaced number words said.name is (subst (λ n. Written words n said.name) (only_one number said.number said.one_number) said.written);
  one_number = tt;
  one_name = said.one_name;
  rows_hold = said.rows_hold;
}

with_joined : (words : List Text) (number : Text) (file : Option Text) → {end : Walk} → Said words (Some number) file end → Said ((tick_word ++ 61 ∷ number) ∷ words) None file end
with_joined words number file said = record {
  number = Some number;
  name = said.name;
  written = joined number words said.name (subst (λ n. Written words n said.name) (only_one number said.number said.one_number) said.written);
  one_number = tt;
  one_name = said.one_name;
  rows_hold = said.rows_hold;
}

with_name : (words : List Text) (name : Text) (tick : Option Text) → is_plain name ≡ true → {end : Walk} → Said words tick (Some name) end → Said (name ∷ words) tick None end
with_name words name tick is said = record {
  number = said.number;
  name = Some name;
  written = named name words said.number is (subst (λ n. Written words said.number n) (only_one name said.name said.one_name) said.written);
  one_number = said.one_number;
  one_name = tt;
  rows_hold = said.rows_hold;
}

abbrev Both : List Text → Type 0
Both words = Sound words × Sound (drop 1 words)

-- `--tick` is met, and the rest of the words
pub number_said : (words : List Text) → Sound (drop 1 words) → (rows : List Row) (tick file : Option Text) → Holds rows tick file → All IsUtf8 words
    → walk_fault shape [] (waiting_walk rows file false) words ≡ [] → settle_fault rules false (end_of (waiting_walk rows file false) words).held ≡ []
    → Said (tick_word ∷ words) tick file (end_of (waiting_walk rows file false) words)
number_said [] rec rows tick file h utf8 none last = cc
number_said (word ∷ words) rec rows (Some tick) file h utf8 none last =
    absurd (doomed (word ∷ words) (waiting_walk rows file false) (again rows file h.has_tick) utf8 none last)
number_said (word ∷ words) rec rows None file h utf8 none last = by (kind_of word) utf8 (parts (waiting_walk rows file false) word words none).0 (parts (waiting_walk rows file false) word words none).1 last
  where
    by : {word : Text} → Kind word → All IsUtf8 (word ∷ words) → turn_fault shape [] (waiting_walk rows file false) word ≡ []
        → walk_fault shape [] (walked rules [] (waiting_walk rows file false) word) words ≡ [] → settle_fault rules false (end_of (walked rules [] (waiting_walk rows file false) word) words).held ≡ []
        → Said (tick_word ∷ word ∷ words) None file (end_of (walked rules [] (waiting_walk rows file false) word) words)
    by hyphens utf8 none more last = absurd (doomed words (waiting_walk rows file true) (cut_off rows file) (rest_utf8 two_hyphens words utf8)
        (subst (λ w. walk_fault shape [] w words ≡ []) (waits_on rows file) more) (subst (λ w. settle_fault rules false (end_of w words).held ≡ []) (waits_on rows file) last))
    by tick_alone utf8 none more last = absurd (tick_twice rows file none)
    by (tick_joined value) utf8 none more last = absurd (joined_for_number rows file value none)
    by (unknown word name v a b c) utf8 none more last = absurd (other_option (held rows (Some (tick_id, []))) (option tick_id) (place file) word name v a b c none)
    by (short first rest other) utf8 none more last = absurd (short_option rows (Some (tick_id, [])) (option tick_id) (place file) first rest (first_utf8 (45 ∷ first ∷ rest) words utf8) other none)
    by (plain word is a b c) utf8 none more last =
        let step = (past_number rows file word a b c).0 in
        let said = rec rows (Some (tick_id, word ∷ [])) (Some word) file (tick_pending rows word file h) (rest_utf8 word words utf8)
        (subst (λ w. walk_fault shape [] w words ≡ []) step more) (subst (λ w. settle_fault rules false (end_of w words).held ≡ []) step last) in
        with_number words word file is (subst (λ w. Said words (Some word) file (end_of w words)) (sym step) said)

sound_nil : Sound []
sound_nil rows pending tick file h utf8 none last = record {
  number = None;
  name = None;
  written = nothing;
  one_number = alone tick;
  one_name = alone file;
  rows_hold = nothing_more rows pending tick file false h;
}

sound_word : (word : Text) (words : List Text) → Sound words → Sound (drop 1 words) → Sound (word ∷ words)
sound_word word words rec next rows pending tick file h utf8 none last =
    by (kind_of word) tick file h utf8 (parts (free_walk rows pending file false) word words none).0 (parts (free_walk rows pending file false) word words none).1 last
  where
    by : {word : Text} → Kind word → (tick file : Option Text) → IsFree rows pending tick file → All IsUtf8 (word ∷ words) → turn_fault shape [] (free_walk rows pending file false) word ≡ []
        → walk_fault shape [] (walked rules [] (free_walk rows pending file false) word) words ≡ []
        → settle_fault rules false (end_of (walked rules [] (free_walk rows pending file false) word) words).held ≡ []
        → Said (word ∷ words) tick file (end_of (walked rules [] (free_walk rows pending file false) word) words)
    by hyphens tick file h utf8 none more last =
        let step = (past_hyphens rows pending file).0 in
        subst (λ w. Said (two_hyphens ∷ words) tick file (end_of w words)) (sym step)
        (trailing_said words rows pending tick file h (subst (λ w. walk_fault shape [] w words ≡ []) step more))
    by tick_alone tick file h utf8 none more last =
        let step = (past_tick rows pending tick file h).0 in
        subst (λ w. Said (tick_word ∷ words) tick file (end_of w words)) (sym step)
        (number_said words next (rows_then rows pending) tick file h.rows_hold (rest_utf8 tick_word words utf8)
        (subst (λ w. walk_fault shape [] w words ≡ []) step more) (subst (λ w. settle_fault rules false (end_of w words).held ≡ []) step last))
    by (tick_joined value) (Some tick) file h utf8 none more last = absurd (joined_again rows pending tick file value h none)
    by (tick_joined value) None file h utf8 none more last =
        let step = (past_joined rows pending file value h).0 in
        let said = rec (rows_then rows pending ++ row tick_id value ∷ []) None (Some value) file (tick_taken (rows_then rows pending) value file h.rows_hold)
        (rest_utf8 (tick_word ++ 61 ∷ value) words utf8) (subst (λ w. walk_fault shape [] w words ≡ []) step more) (subst (λ w. settle_fault rules false (end_of w words).held ≡ []) step last) in
        with_joined words value file (subst (λ w. Said words (Some value) file (end_of w words)) (sym step) said)
    by (unknown word name v a b c) tick file h utf8 none more last = absurd (other_option (held rows pending) idle (place file) word name v a b c none)
    by (short first rest other) tick file h utf8 none more last = absurd (short_option rows pending idle (place file) first rest (first_utf8 (45 ∷ first ∷ rest) words utf8) other none)
    by (plain word is a b c) tick (Some file) h utf8 none more last = absurd (name_again rows pending file word a b c none)
    by (plain word is a b c) tick None h utf8 none more last =
        let step = (past_name rows pending tick word h a b c).0 in
        let said = rec (rows_then rows pending) (Some (file_id, word ∷ [])) tick (Some word) (file_pending (rows_then rows pending) word tick h.rows_hold)
        (rest_utf8 word words utf8) (subst (λ w. walk_fault shape [] w words ≡ []) step more) (subst (λ w. settle_fault rules false (end_of w words).held ≡ []) step last) in
        with_name words word tick is (subst (λ w. Said words tick (Some word) (end_of w words)) (sym step) said)

both_sound : (words : List Text) → Both words
both_sound [] = (sound_nil, sound_nil)
both_sound (word ∷ words) = (sound_word word words (both_sound words).0 (both_sound words).1, (both_sound words).0)

pub sound : (words : List Text) → Sound words
sound words = (both_sound words).0

-- ---- words that are written as they should be are taken

pub record Taken (words : List Text) (rows : List Row) (pending : Option (Text × List Text)) (tick file number name : Option Text) : Type 0 where
  pub rows_at_end : List Row
  pub pending_at_end : Option (Text × List Text)
  pub trailing : Bool
  pub end_is : end_of (free_walk rows pending file false) words ≡ free_walk rows_at_end pending_at_end (either file name) trailing
  pub no_fault : walk_fault shape [] (free_walk rows pending file false) words ≡ []
  pub is_free : IsFree rows_at_end pending_at_end (either tick number) (either file name)

pub taken : (words : List Text) (number name : Option Text) → Written words number name
    → (rows : List Row) (pending : Option (Text × List Text)) (tick file : Option Text) → IsFree rows pending tick file → AtMostOne tick number → AtMostOne file name
    → Taken words rows pending tick file number name
taken words number name nothing rows pending tick file h a b = record {
  rows_at_end = rows;
  pending_at_end = pending;
  trailing = false;
  end_is = rw (itself file) refl;
  no_fault = no_words (free_walk rows pending file false);
  is_free = rw (itself tick, itself file) h;
}
taken words number name (spaced n rest f is more) rows pending None file h a b =
    let first = past_tick rows pending None file h in
    let no = no_option n is in
    let second = past_number (rows_then rows pending) file n no.0 no.1 no.2 in
    let then = taken rest None f more (rows_then rows pending) (Some (tick_id, n ∷ [])) (Some n) file (tick_pending (rows_then rows pending) n file h.rows_hold) tt b in
    record {
      rows_at_end = then.rows_at_end;
      pending_at_end = then.pending_at_end;
      trailing = then.trailing;
      end_is = rw (first.0, second.0) then.end_is;
      no_fault = joins (free_walk rows pending file false) tick_word (n ∷ rest) first.1 (rw first.0 (joins (waiting_walk (rows_then rows pending) file false) n rest second.1 (rw second.0 then.no_fault)));
      is_free = then.is_free;
    }
taken words number name (spaced n rest f is more) rows pending (Some t) file h a b = absurd a
taken words number name (joined n rest f more) rows pending None file h a b =
    let first = past_joined rows pending file n h in
    let then = taken rest None f more (rows_then rows pending ++ row tick_id n ∷ []) None (Some n) file (tick_taken (rows_then rows pending) n file h.rows_hold) tt b in
    record {
      rows_at_end = then.rows_at_end;
      pending_at_end = then.pending_at_end;
      trailing = then.trailing;
      end_is = rw first.0 then.end_is;
      no_fault = joins (free_walk rows pending file false) (tick_word ++ 61 ∷ n) rest first.1 (rw first.0 then.no_fault);
      is_free = then.is_free;
    }
taken words number name (joined n rest f more) rows pending (Some t) file h a b = absurd a
taken words number name (named f rest n is more) rows pending tick None h a b =
    let no = no_option f is in
    let first = past_name rows pending tick f h no.0 no.1 no.2 in
    let then = taken rest n None more (rows_then rows pending) (Some (file_id, f ∷ [])) tick (Some f) (file_pending (rows_then rows pending) f tick h.rows_hold) a tt in
    record {
      rows_at_end = then.rows_at_end;
      pending_at_end = then.pending_at_end;
      trailing = then.trailing;
      end_is = rw first.0 then.end_is;
      no_fault = joins (free_walk rows pending None false) f rest first.1 (rw first.0 then.no_fault);
      is_free = then.is_free;
    }
taken words number name (named f rest n is more) rows pending tick (Some x) h a b = absurd b
taken words number name ended rows pending tick file h a b =
    let first = past_hyphens rows pending file in
    record {
      rows_at_end = rows;
      pending_at_end = pending;
      trailing = true;
      end_is = rw (first.0, itself file) refl;
      no_fault = joins (free_walk rows pending file false) two_hyphens [] first.1 (no_words (walked rules [] (free_walk rows pending file false) two_hyphens));
      is_free = rw (itself tick, itself file) h;
    }
taken words number name (named_last f) rows pending tick None h a b =
    let first = past_hyphens rows pending None in
    let second = past_last_name rows pending tick f h in
    record {
      rows_at_end = rows_then rows pending;
      pending_at_end = Some (file_id, f ∷ []);
      trailing = true;
      end_is = rw (first.0, second.0) refl;
      no_fault = joins (free_walk rows pending None false) two_hyphens (f ∷ []) first.1 (rw first.0 (joins (free_walk rows pending None true) f [] second.1 (no_words (walked rules [] (free_walk rows pending None true) f))));
      is_free = rw (itself tick) (file_pending (rows_then rows pending) f tick h.rows_hold);
    }
taken words number name (named_last f) rows pending tick (Some x) h a b = absurd b
