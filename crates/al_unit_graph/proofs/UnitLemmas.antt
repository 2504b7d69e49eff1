-- Names of files are short, and the unit of a key is the one in the key's own file.
use Rattle.std.proofs.Common.{◌≡◌, ℕ, ◌<◌, ◌≤◌, Bool, true, false, not, ◌&&◌, cond, List, [], ◌∷◌, length, Option, Some, None, if◌then◌else◌, refl, ap, sym, ◌∙◌, arith}
use Rattle.std.specs.Prelude.{IfSome}
use Rattle.std.specs.Option.{option_and_then, option_map, is_some}
use Rattle.std.specs.Ordering.{nat_cmp, is_eq, match_ordering}
use Rattle.std.specs.declared.cmp.Ordering.{Ordering}
use Rattle.std.specs.declared.cmp.Ordering.TheVariants.{Less, Equal, Greater}
use Rattle.std.specs.Cmp.Lexicographic.{slice_cmp}
use Rattle.std.specs.BTreeMap.{insert_entry}
use Rattle.std.specs.Str.{bytes_eq}
use Rattle.std.proofs.lemmas.Map.Text.{is_eq-slice_cmp}
use Rattle.std.proofs.lemmas.Slice.Eq.{bytes_eq-Decides}
use Rattle.al_base.specs.Batch.{Key}
use Rattle.al_base.specs.Files.{name_cmp}
use Rattle.al_base.specs.FileNames.{file_name_of}
use Rattle.al_base.specs.declared.unit_key.UnitKind.{UnitKind}
use Rattle.al_base.specs.declared.unit_key.UnitKind.TheVariants.{Decl, Body, Sub}
use Rattle.al_unit_graph.specs.Headers.{Header, Contents, Headed, Unread, Source, Library, kind_of, key_of_unit}
use Rattle.al_unit_graph.specs.Names.{is_reserved}
use Rattle.al_unit_graph.specs.Library.{HasShortNames, source_at, is_rightly_named, held, unit_in, is_kind, of_key, headed_as, unit_at}

-- a name of another length names no file of the library
beyond_by : (q : List ℕ) (e : List ℕ × Source) (es : Library) (b : Bool) → is_eq (slice_cmp nat_cmp q e.0) ≡ b → length e.0 ≤ 255 → 255 < length q → source_at es q ≡ None → cond b (Some e.1) (source_at es q) ≡ None
beyond_by q e es true is short long rest =
    let same = (bytes_eq-Decides q e.0).0 (sym (is_eq-slice_cmp q e.0) ∙ is) in
    let lengths = ap length same in
    absurd (omega (arith, lengths, short, long))
beyond_by q e es false is short long rest = rest

pub beyond : (lib : Library) (q : List ℕ) → HasShortNames lib → 255 < length q → source_at lib q ≡ None
beyond [] q short long = refl
beyond (e ∷ es) q short long = beyond_by q e es (is_eq (slice_cmp nat_cmp q e.0)) refl short.0 long (beyond es q short.1 long)

at_most : (n : ℕ) (b : Bool) → (255 < n → b ≡ false) → b ≡ true → n ≤ 255
at_most n true none is = omega (arith, (λ (less : 255 < n). let P : ⊥ = absurd (let f = none less in cc) in P))
at_most n false none is = absurd (cc)

pub within : (lib : Library) (q : List ℕ) → HasShortNames lib → is_some (source_at lib q) ≡ true → length q ≤ 255
within lib q short is = at_most (length q) (is_some (source_at lib q)) (λ long. ap is_some (beyond lib q short long)) is

pub within_some : {A : Type 0} (f : A → Source) (o : Option A) (lib : Library) (q : List ℕ) → option_map f o ≡ source_at lib q → HasShortNames lib → IfSome o (λ _. length q ≤ 255)
within_some f None lib q is short = tt
within_some f (Some a) lib q is short = within lib q short (ap is_some (sym is))

short_by : (e : List ℕ × Source) (es : Library) (k : List ℕ) (v : Source) (o : Ordering) → length k ≤ 255 → HasShortNames (e ∷ es) → HasShortNames (insert_entry name_cmp es k v) → HasShortNames (match_ordering o ((k, v) ∷ e ∷ es) ((e.0, v) ∷ es) (e ∷ insert_entry name_cmp es k v))
short_by e es k v Less here short rest = (here, short)
short_by e es k v Equal here short rest = short
short_by e es k v Greater here short rest = (short.0, rest)

pub short_inserted : (lib : Library) (k : List ℕ) (v : Source) → HasShortNames lib → length k ≤ 255 → HasShortNames (insert_entry name_cmp lib k v)
short_inserted [] k v short here = (here, tt)
short_inserted (e ∷ es) k v short here = short_by e es k v (slice_cmp nat_cmp k e.0) here short (short_inserted es k v short.1 here)

-- the unit of a key is the one of this name and kind that the key's own file holds
same_kind : (a b : UnitKind) → is_kind a b ≡ true → a ≡ b
same_kind Decl Decl is = refl
same_kind Body Body is = refl
same_kind Sub Sub is = refl
same_kind Decl Body is = absurd (cc)
same_kind Decl Sub is = absurd (cc)
same_kind Body Decl is = absurd (cc)
same_kind Body Sub is = absurd (cc)
same_kind Sub Decl is = absurd (cc)
same_kind Sub Body is = absurd (cc)

itself : (name : List ℕ) → bytes_eq name name ≡ true
itself name = (bytes_eq-Decides name name).1 refl

module _ (key : Key) (h : Header) where
  abbrev is_it : Bool
  is_it = bytes_eq h.name key.0 && is_kind (kind_of h.form) key.1

  other : (c : Bool) → is_it ≡ false → option_and_then (of_key key) (if c then Some h else None) ≡ None
  other true fails = rw fails refl
  other false fails = refl

  chosen : (c d : Bool) → c ≡ d → is_it ≡ true → option_and_then (of_key key) (if not c then Some h else None) ≡ (if is_it && not d then Some h else None)
  chosen true true same all = rw all refl
  chosen false false same all = rw all refl
  chosen true false same all = absurd (cc)
  chosen false true same all = absurd (cc)

  named_by : (x y : Bool) → bytes_eq h.name key.0 ≡ x → is_kind (kind_of h.form) key.1 ≡ y → option_and_then (of_key key) (held (file_name_of key) (Headed h)) ≡ headed_as (Headed h) key
  named_by true true e f =
      let name = (bytes_eq-Decides h.name key.0).0 e in
      let kind = same_kind (kind_of h.form) key.1 f in
      let P : List ℕ → Key = λ n. (n, kind_of h.form) in
      let Q : UnitKind → Key = λ k. (key.0, k) in
      let same : key_of_unit h ≡ key = ap P name ∙ ap Q kind in
      let file : bytes_eq (file_name_of key) (file_name_of (key_of_unit h)) ≡ true = rw same (itself (file_name_of key)) in
      let all : is_it ≡ true = rw e (rw f refl) in
      rw file (chosen (is_reserved h.name) (is_reserved key.0) (ap is_reserved name) all)
  named_by true false e f = let fails : is_it ≡ false = rw e (rw f refl) in other (is_rightly_named (file_name_of key) h) fails ∙ rw fails refl
  named_by false y e f = let fails : is_it ≡ false = rw e refl in other (is_rightly_named (file_name_of key) h) fails ∙ rw fails refl

headed : (key : Key) (c : Contents) → option_and_then (of_key key) (held (file_name_of key) c) ≡ headed_as c key
headed key (Headed h) = named_by key h (bytes_eq h.name key.0) (is_kind (kind_of h.form) key.1) refl refl
headed key (Unread place code) = refl

abbrev by_source : Key → Option Source → Option Header
by_source key source = option_and_then (λ s. headed_as s.contents key) source

from_source : (key : Key) (source : Option Source) → option_and_then (of_key key) (option_and_then (λ s. held (file_name_of key) s.contents) source) ≡ option_and_then (λ s. headed_as s.contents key) source
from_source key None = refl
from_source key (Some s) = headed key s.contents

pub unit_at_headed : (lib : Library) (key : Key) → unit_at lib key ≡ option_and_then (λ s. headed_as s.contents key) (source_at lib (file_name_of key))
unfolding unit_at
unit_at_headed lib key = from_source key (source_at lib (file_name_of key))

-- a unit whose file's name would be too long isn't there
pub unit_beyond : (lib : Library) (key : Key) → HasShortNames lib → 255 < length (file_name_of key) → unit_at lib key ≡ None
unit_beyond lib key short long = unit_at_headed lib key ∙ ap (λ source. option_and_then (λ s. headed_as s.contents key) source) (beyond lib (file_name_of key) short long)
