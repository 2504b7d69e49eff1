-- The files of a server: the documents that are open, over what was read of folders.
use Rattle.std.specs.Prelude.{◌≡◌, ◌<◌, ◌⊎◌, ℕ, Bool, false, ◌||◌, List, [], ◌∷◌, ◌++◌, fold, map, length, is_some, String, string_bytes, Vec, if◌then◌else◌}
use Rattle.std.specs.BTreeMap.{BTreeMap}
use Rattle.al_base.specs.Files.{Texts, text_of, with_file, put_refusal}
use Rattle.al_lsp_messages.specs.declared.methods.NoticeMethod.{NoticeMethod}
use Rattle.al_lsp_messages.specs.declared.methods.NoticeMethod.TheVariants as notices
use Rattle.al_lsp_served.specs.Named.{held}
use Rattle.al_lsp_served.specs.declared.document.Document.{Document}
use Rattle.al_lsp_served.specs.declared.disk.SourceFile.{SourceFile}

-- a file of a folder: its name and its text
abbrev pub file_of : SourceFile → List ℕ × List ℕ
file_of f = (string_bytes f.name, f.text.items)

-- .. beside those before it: of two files of one name the first stays, and what no library takes is left out
abbrev pub with_read : Texts → List ℕ × List ℕ → Texts
with_read files f = if is_some (text_of files f.0) || is_some (put_refusal files f.0 (length f.1)) then files else with_file files f.0 f.1

-- the files of a list
abbrev pub gathered : List (List ℕ × List ℕ) → Texts
gathered list = fold with_read [] list

-- what a disk has in these folders, one behind the other
abbrev pub AreRead : (List ℕ → List (List ℕ × List ℕ) → Type 0) → List (List ℕ) → List (List ℕ × List ℕ) → Type 0
AreRead has [] list = list ≡ []
AreRead has (folder ∷ folders) list = (first : List (List ℕ × List ℕ)) × (rest : List (List ℕ × List ℕ)) × (has folder first × (AreRead has folders rest × (list ≡ first ++ rest)))

-- .. as files
pub record AreGathered (has : List ℕ → List (List ℕ × List ℕ) → Type 0) (folders : List (List ℕ)) (files : Texts) : Type 0 where
  pub list : List (List ℕ × List ℕ)
  pub read : AreRead has folders list
  pub is : files ≡ gathered list

-- whether a document is the file of a name
abbrev pub is_open : {Y : Type 0} → BTreeMap (Vec ℕ Y) Document → List ℕ → Bool
is_open documents name = is_some (held documents name)

-- each file that isn't open has the text that was read, and is there only if it was read; as long as a library takes one more
abbrev pub IsOverlaid : (List ℕ → Bool) → Texts → Texts → Type 0
IsOverlaid opens read texts = length texts < 4096 → (name : List ℕ) → opens name ≡ false → text_of texts name ≡ text_of read name

-- .. of what the disk has in these folders, where these documents are open
pub record FollowsDisk {Y Z : Type 0} (has : List ℕ → List (List ℕ × List ℕ) → Type 0) (folders : List (String Z)) (documents : BTreeMap (Vec ℕ Y) Document) (texts : Texts) : Type 0 where
  pub read : Texts
  pub gathered : AreGathered has (map string_bytes folders) read
  pub over : IsOverlaid (is_open documents) read texts

-- whatever was read: the files that aren't open after a step are what they were
abbrev pub Keeps : (List ℕ → Bool) → Texts → (List ℕ → Bool) → Texts → Type 0
Keeps was_open texts opens texts_after = (read : Texts) → IsOverlaid was_open read texts → IsOverlaid opens read texts_after

abbrev pub KeepsRead : {Y : Type 0} → BTreeMap (Vec ℕ Y) Document → Texts → BTreeMap (Vec ℕ Y) Document → Texts → Type 0
KeepsRead documents texts documents_after texts_after = Keeps (is_open documents) texts (is_open documents_after) texts_after

-- which files are read again after a notice: all as the client starts and where it tells of files, those of a document that is closed
abbrev pub FollowsNotice : NoticeMethod → Type 0 → Type 0 → Type 0
FollowsNotice notices.Initialized follows keeps = follows
FollowsNotice notices.Exit follows keeps = Unit {0}
FollowsNotice notices.DidOpen follows keeps = keeps
FollowsNotice notices.DidChange follows keeps = keeps
FollowsNotice notices.DidSave follows keeps = follows
FollowsNotice notices.DidClose follows keeps = follows ⊎ keeps
FollowsNotice notices.DidChangeWatchedFiles follows keeps = follows
FollowsNotice notices.Unknown follows keeps = Unit {0}
