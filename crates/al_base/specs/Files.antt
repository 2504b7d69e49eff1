-- A finite map from file names to sources: the list of its pairs, in the order of the names' bytes.
use Rattle.std.specs.Prelude.{◌≡◌, ◌≤◌, ◌⊎◌, ℕ, true, ◌&&◌, not, nat_lt, nat_le, List, length, Option, Some, None, is_some, Result, Ok, Err, if◌then◌else◌}
use Rattle.std.specs.List.{AllByRecursion}
use Rattle.std.specs.Ordering.{nat_cmp}
use Rattle.std.specs.declared.cmp.Ordering.{Ordering}
use Rattle.std.specs.Cmp.Lexicographic.{slice_cmp}
use Rattle.std.specs.Map.{lookup, remove_entry}
use Rattle.std.specs.BTreeMap.{insert_entry, is_at}
use Rattle.al_base.specs.Names.{is_file_name}
use Rattle.al_base.specs.declared.refusal.Refusal.{Refusal}
use Rattle.al_base.specs.declared.refusal.Refusal.TheVariants.{BadName, NoFile, FileExists, TooManyFiles, TextTooLong, NoMemory}

-- a name and its source, for each file
abbrev pub Texts : Type 0
Texts = List (List ℕ × List ℕ)

-- a file's name, and a source of at most 1 MiB
abbrev pub IsFile : List ℕ × List ℕ → Type 0
IsFile file = (is_file_name file.0 ≡ true) × (length file.1 ≤ 1048576)

-- at most 4,096 files
pub record AreFiles (files : Texts) : Type 0 where
  pub few : length files ≤ 4096
  pub each : AllByRecursion IsFile files

-- the order of names by their bytes
abbrev pub name_cmp : List ℕ → List ℕ → Ordering
name_cmp = slice_cmp nat_cmp

-- the source of the file, if it is there
abbrev pub text_of : Texts → List ℕ → Option (List ℕ)
text_of files name = lookup (is_at (name_cmp name)) files

-- the files with this source under the name, and the others as they were
abbrev pub with_file : Texts → List ℕ → List ℕ → Texts
with_file files name text = insert_entry name_cmp files name text

-- without the file of the name, and the others as they were
abbrev pub without_file : Texts → List ℕ → Texts
without_file files name = remove_entry (is_at (name_cmp name)) files

-- the files with this source, if there is one, under the name
abbrev pub with_text : Option (List ℕ) → Texts → List ℕ → Texts
with_text None files name = files
with_text (Some text) files name = with_file files name text

-- the source of old is now under new
abbrev pub with_renamed : Texts → List ℕ → List ℕ → Texts
with_renamed files old new = with_text (text_of files old) (without_file files old) new

-- the first refusal of a put, of a source of so many bytes, that holds
unfoldable pub put_refusal : Texts → List ℕ → ℕ → Option Refusal
put_refusal files name len =
    if not (is_file_name name) then Some BadName
    else if nat_lt 1048576 len then Some TextTooLong
    else if not (is_some (text_of files name)) && nat_le 4096 (length files) then Some TooManyFiles
    else None

unfoldable pub delete_refusal : Texts → List ℕ → Option Refusal
delete_refusal files name =
    if not (is_file_name name) then Some BadName
    else if not (is_some (text_of files name)) then Some NoFile
    else None

unfoldable pub rename_refusal : Texts → List ℕ → List ℕ → Option Refusal
rename_refusal files old new =
    if not (is_file_name old) then Some BadName
    else if not (is_file_name new) then Some BadName
    else if not (is_some (text_of files old)) then Some NoFile
    else if is_some (text_of files new) then Some FileExists
    else None

-- the call answers this refusal, and no other
abbrev pub AnswersRefusal : {T : Type 0} → Result T Refusal → Option Refusal → Type 0
AnswersRefusal (Ok x) first = first ≡ None
AnswersRefusal (Err e) first = first ≡ Some e

-- the call gives this refusal; if there is none it may refuse for memory
abbrev pub AnswersFirst : {T : Type 0} → Result T Refusal → Option Refusal → Type 0
AnswersFirst (Ok x) first = first ≡ None
AnswersFirst (Err e) first = (first ≡ Some e) ⊎ ((first ≡ None) × (e ≡ NoMemory))
