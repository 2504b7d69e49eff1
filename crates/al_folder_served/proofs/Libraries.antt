-- A library some of whose files change.
use Rattle.std.proofs.Common.{◌≡◌, ◌≤◌, ℕ, List, length, sym, ap, subst, ◌∙◌}
use Rattle.al_base.specs.FileLaws.{Ascend}
use Rattle.al_base.specs.Files.{Texts, without_file}
use Rattle.al_session_served.specs.Library.{State}
use Rattle.al_folder_served.proofs.Brought.{deleted_to, deleted_all, Ascend-still_there}

-- only its files change
abbrev pub IsButFiles : State → State → Type 0
IsButFiles start library = library ≡ record start { now = library.now }

module _ (start was after : State) (but : IsButFiles start was) where
  pub same_files_of : (files : Texts) → after ≡ record was { now = files } → after.now ≡ files
  same_files_of files is = ap (λ (l : State). l.now) is

  pub but_files_again : (files : Texts) → after ≡ record was { now = files } → IsButFiles start after
  but_files_again files is = is ∙ ap (λ (l : State). record l { now = files }) but ∙ ap (λ (fs : Texts). record start { now = fs }) (sym (same_files_of files is))

  pub but_files_yet : after ≡ was → IsButFiles start after
  but_files_yet is = subst (IsButFiles start) (sym is) but

pub brought : (start after : State) (files : Texts) → IsButFiles start after → after.now ≡ files → after ≡ record start { now = files }
brought start after files but are = but ∙ ap (λ (fs : Texts). record start { now = fs }) are

module _ (start was after : State) (had left : Texts) (was_is : was ≡ record start { now = had }) where
  pub one_deleted : (name : List ℕ) → after ≡ record was { now = without_file was.now name } → without_file had name ≡ left → after ≡ record start { now = left }
  one_deleted name is gone = is ∙ ap (λ (l : State). record l { now = without_file l.now name }) was_is ∙ ap (λ (fs : Texts). record start { now = fs }) gone

  pub none_deleted : after ≡ was → had ≡ left → after ≡ record start { now = left }
  none_deleted is same = is ∙ was_is ∙ ap (λ (fs : Texts). record start { now = fs }) same

module _ (start after : State) (now before : Texts) (i : ℕ) (is : after ≡ record start { now = deleted_to now before i }) (past : length before ≤ i) (sorted : Ascend before) where
  pub left_ascends : Ascend after.now
  left_ascends = subst Ascend (sym (ap (λ (l : State). l.now) is ∙ deleted_all now before i past)) (Ascend-still_there now before sorted)
