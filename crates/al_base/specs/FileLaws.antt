-- The files are a finite map from names to sources.
use Rattle.std.specs.Prelude.{◌≡◌, ◌≢◌, ℕ, List, Option, Some, None}
use Rattle.std.specs.List.Sorted.{IsStrictlySortedBy}
use Rattle.std.specs.Map.{keys_of}
use Rattle.al_base.specs.Files.{Texts, name_cmp, text_of, with_file, without_file, with_renamed, rename_refusal}

-- the names ascend by their bytes, so each is there once
abbrev pub Ascend : Texts → Type 0
Ascend files = IsStrictlySortedBy name_cmp (keys_of files)

-- the source under one name is now this one, or none, and the sources under all others are what they were
pub record Changes (before after : Texts) (name : List ℕ) (text : Option (List ℕ)) : Type 0 where
  pub there : text_of after name ≡ text
  pub others : (other : List ℕ) → other ≢ name → text_of after other ≡ text_of before other
  pub ascend : Ascend after

-- the old source is under the new name, none under the old one, and the sources under all others are what they were
pub record Moves (before after : Texts) (old new : List ℕ) : Type 0 where
  pub moved : text_of after new ≡ text_of before old
  pub gone : text_of after old ≡ None
  pub others : (other : List ℕ) → other ≢ old → other ≢ new → text_of after other ≡ text_of before other
  pub ascend : Ascend after

abbrev pub PutChangesOne : Type 0
PutChangesOne = (files : Texts) (name text : List ℕ) → Ascend files → Changes files (with_file files name text) name (Some text)

abbrev pub DeleteChangesOne : Type 0
DeleteChangesOne = (files : Texts) (name : List ℕ) → Ascend files → Changes files (without_file files name) name None

abbrev pub RenameMovesOne : Type 0
RenameMovesOne = (files : Texts) (old new : List ℕ) → Ascend files → rename_refusal files old new ≡ None → Moves files (with_renamed files old new) old new
