-- Reading the parts of images: what is at the beginning of some bytes, with the bytes after it.
use Rattle.std.specs.Prelude.{◌≡◌, ℕ, zero, suc, ◌+◌, ◌==◌, nat_le, nat_lt, Bool, true, false, ◌&&◌, if◌then◌else◌, List, [], ◌∷◌, ◌++◌, length, take, drop, Option, Some, None, Result, Ok, Err}
use Rattle.std.specs.List.{list_all}
use Rattle.std.specs.Str.{bytes_eq}
use Rattle.al_base.specs.declared.unit_key.UnitKind.{UnitKind}
use Rattle.al_base.specs.declared.unit_key.UnitKind.TheVariants.{Decl, Body, Sub}
use Rattle.al_instr.specs.Reading.{◌>>=◌, word_at}
use Rattle.al_link_image.specs.declared.fault.LinkFault.{LinkFault}
use Rattle.al_link_image.specs.declared.fault.LinkFault.TheVariants as faults
use Rattle.al_link_image.specs.declared.parts.Region.{Region}
use Rattle.al_link_image.specs.declared.parts.ImageObject.{ImageObject}
use Rattle.al_link_image.specs.Images.{is_name_byte}
use Rattle.al_instr.specs.declared.lines.LineEntry.{LineEntry}
use Rattle.al_instr.specs.Lines.{rise}
use Rattle.al_link_image.specs.Lines.{mark_of}

-- what was found, seen by view, is what reading gives, unless memory ran out
abbrev pub Finds : {X Y : Type 0} → (X → Y) → Result X LinkFault → Option Y → Type 0
Finds view (Ok x) read = read ≡ Some (view x)
Finds view (Err faults.TooLarge) read = ⊥
Finds view (Err faults.Damaged) read = read ≡ None
Finds view (Err faults.NoMemory) read = Unit {0}

-- a value, if it passes a test
abbrev pub checked : {A : Type 0} → Bool → A → Option A
checked b x = if b then Some x else None

-- a number in four bytes that is at most the limit
unfoldable pub limited_at : ℕ → List ℕ → Option (ℕ × List ℕ)
limited_at limit bytes = word_at bytes >>= λ n. checked (nat_le n.0 limit) n

-- whether the version after the mark is 2, with what is after it; there are no versions but 1 and 2
unfoldable pub version_at : List ℕ → Option (Bool × List ℕ)
version_at bytes =
    if bytes_eq (take 6 bytes) (mark_of None) then Some (false, drop 6 bytes)
    else checked (bytes_eq (take 6 bytes) (mark_of (Some []))) (true, drop 6 bytes)

-- so many more, after those that are there
unfoldable pub more_at : {A : Type 0} → (List ℕ → Option (A × List ℕ)) → List A → ℕ → List ℕ → Option (List A × List ℕ)
more_at at xs zero bytes = Some (xs, bytes)
more_at at xs (suc n) bytes = at bytes >>= λ x. more_at at (xs ++ x.0 ∷ []) n x.1

-- some after their number, which is at most the limit
unfoldable pub counted_at : {A : Type 0} → ℕ → (List ℕ → Option (A × List ℕ)) → List ℕ → Option (List A × List ℕ)
counted_at limit at bytes = limited_at limit bytes >>= λ n. more_at at [] n.0 n.1

-- a protected object's words, which are among so many
unfoldable pub region_at : ℕ → List ℕ → Option (Region × List ℕ)
region_at count bytes =
    word_at bytes >>= λ a. word_at a.1 >>= λ w. word_at w.1 >>= λ c.
    checked (nat_le (a.0 + w.0) count && nat_le c.0 30) (record { address = a.0; words = w.0; ceiling = c.0 }, c.1)

-- which part of a unit has a number
abbrev pub kind_of_number : ℕ → Option UnitKind
kind_of_number n = if n == 0 then Some Decl else if n == 1 then Some Body else if n == 2 then Some Sub else None

-- a byte
abbrev pub byte_at : List ℕ → Option (ℕ × List ℕ)
byte_at [] = None
byte_at (b ∷ bytes) = Some (b, bytes)

-- a unit's name after its length
unfoldable pub name_at : List ℕ → Option (List ℕ × List ℕ)
name_at bytes =
    byte_at bytes >>= λ n.
    if n.0 == 0 then None else if nat_lt (length n.1) n.0 then None
    else checked (list_all is_name_byte (take n.0 n.1)) (take n.0 n.1, drop n.0 n.1)

-- a unit's kind
unfoldable pub kind_at : List ℕ → Option (UnitKind × List ℕ)
kind_at bytes = byte_at bytes >>= λ n. kind_of_number n.0 >>= λ kind. Some (kind, n.1)

unfoldable pub object_at : List ℕ → Option (ImageObject × List ℕ)
object_at bytes =
    kind_at bytes >>= λ k. name_at k.1 >>= λ n. word_at n.1 >>= λ p.
    Some (record { kind = k.0; name = n.0; place = p.0 }, p.1)

-- the parts, with the code by its bytes, which are all that is after its length
pub record Parts : Type 0 where
  pub tasks : ℕ
  pub data_words : ℕ
  pub protected : List Region
  pub objects : List ImageObject
  pub code : List ℕ
  pub lines : Option (List LineEntry)

-- the code after its length
unfoldable pub code_at : List ℕ → Option (List ℕ × List ℕ)
code_at bytes = limited_at 16777216 bytes >>= λ n. if nat_lt (length n.1) n.0 then None else Some (take n.0 n.1, drop n.0 n.1)

unfoldable pub entry_at : List ℕ → Option (LineEntry × List ℕ)
entry_at bytes = word_at bytes >>= λ p. word_at p.1 >>= λ l. Some (record { place = p.0; line = l.0 }, l.1)

-- the lines after their number, of a code of this length: all that is left
unfoldable pub entries_at : ℕ → List ℕ → Option (List LineEntry)
entries_at end bytes = counted_at 16777216 entry_at bytes >>= λ es. checked (length es.1 == 0 && rise 0 end es.0) es.0

-- only images of version 2 have them
unfoldable pub lines_at : Bool → ℕ → List ℕ → Option (Option (List LineEntry))
lines_at has_lines end bytes = if has_lines then (entries_at end bytes >>= λ es. Some (Some es)) else checked (length bytes == 0) None

-- the code and its lines
unfoldable pub tail_at : Bool → List ℕ → Option (List ℕ × Option (List LineEntry))
tail_at has_lines bytes = code_at bytes >>= λ c. lines_at has_lines (length c.0) c.1 >>= λ l. Some (c.0, l)

unfoldable pub parts_at : List ℕ → Option Parts
parts_at bytes =
    version_at bytes >>= λ v. limited_at 63 v.1 >>= λ t. limited_at 1048576 t.1 >>= λ w.
    counted_at 65535 (region_at w.0) w.1 >>= λ r. counted_at 65535 object_at r.1 >>= λ o. tail_at v.0 o.1 >>= λ c.
    Some (record { tasks = t.0; data_words = w.0; protected = r.0; objects = o.0; code = c.0; lines = c.1 })
