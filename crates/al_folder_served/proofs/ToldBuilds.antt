-- What is printed of builds, with a program and without, and of runs.
use Rattle.std.proofs.Common.{◌≡◌, ℕ, Bool, true, false, List, [], ◌++◌, is_some, refl}
use Rattle.al_base.specs.Files.{Texts}
use Rattle.al_session_served.specs.Builds.{BuildResult, Faulty, NoMain, NoBody, NoSubunit, Cycle, TooLarge, Made, image_of}
use Rattle.al_folder.specs.Runs.{end_text}
use Rattle.al_folder.specs.declared.runs.RunEnd.{RunEnd}
use Rattle.al_folder.specs.declared.runs.RunEnd.TheVariants.{Finished, Idle, Spent, Stuck, Raised}
use Rattle.al_folder_served.specs.Told.{line_end, build_text, told_of, is_silent, end_told}

module _ (is_open : Bool) (folders texts : Texts) (is_plain : Bool) (main : List ℕ) where
  pub told_made : (gave : BuildResult) → is_some (image_of gave) ≡ true → told_of is_open folders texts is_plain main gave ≡ []
  told_made (Faulty found) is = cc
  told_made NoMain is = cc
  told_made (NoBody name) is = cc
  told_made (NoSubunit name) is = cc
  told_made (Cycle lines) is = cc
  told_made (TooLarge order) is = cc
  told_made (Made order image) is = refl

  pub told_unmade : (gave : BuildResult) → is_some (image_of gave) ≡ false → told_of is_open folders texts is_plain main gave ≡ line_end is_open ++ build_text folders texts is_plain main gave
  told_unmade (Faulty found) is = refl
  told_unmade NoMain is = refl
  told_unmade (NoBody name) is = refl
  told_unmade (NoSubunit name) is = refl
  told_unmade (Cycle lines) is = refl
  told_unmade (TooLarge order) is = refl
  told_unmade (Made order image) is = cc

module _ (is_open : Bool) (folders : Texts) where
  pub told_silent : (end : RunEnd) → is_silent end ≡ true → end_told is_open folders end ≡ []
  told_silent Finished is = refl
  told_silent Idle is = cc
  told_silent Spent is = cc
  told_silent Stuck is = cc
  told_silent (Raised exception unit line) is = cc

  pub told_loud : (end : RunEnd) → is_silent end ≡ false → end_told is_open folders end ≡ line_end is_open ++ end_text folders end
  told_loud Finished is = cc
  told_loud Idle is = refl
  told_loud Spent is = refl
  told_loud Stuck is = refl
  told_loud (Raised exception unit line) is = refl
