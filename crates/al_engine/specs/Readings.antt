-- What is known of the files that were read, and of the present ones.
use Rattle.std.specs.Prelude.{◌≡◌, ℕ, true, List, Option, IfSome, is_some}
use Rattle.al_base.specs.Files.{Texts, text_of, with_file}

-- only the source of one file differs, which was there
abbrev pub IsEditedAt : Texts → List ℕ → Texts → Type 0
IsEditedAt old name new = (is_some (text_of old name) ≡ true) × ((text : List ℕ) × (new ≡ with_file old name text))

-- What a library keeps to read only one file: a second copy of what it read of the files of the last build, and the name of the
-- only file that was edited since.
pub record IsReadTwice (files : Texts) (last spare : Option Texts) (alone : Option (List ℕ)) : Type 0 where
  pub spare_is : IfSome spare (λ s. IfSome last (λ b. s ≡ b))
  pub edited : IfSome alone (λ name. IfSome last (λ b. IsEditedAt b name files))
