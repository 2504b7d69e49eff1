-- What a build did, as it is printed.
use Rattle.std.specs.Prelude.{ℕ, Bool, true, false, ◌++◌, ◌==◌, nat_lt, List, codes, decimal, if◌then◌else◌}
use Rattle.al_folder.specs.declared.progress.ImageChange.{ImageChange}
use Rattle.al_folder.specs.declared.progress.ImageChange.TheVariants.{Absent, Made, Patched, Kept}

-- what a build did to the image: whether there was one before, whether there is one now, and into the code of how many of the
-- units it wrote
abbrev pub change_of : Bool → Bool → ℕ → ℕ → ImageChange
change_of had false written units = Absent
change_of false true written units = Made
change_of true true written units = if written == 0 then Kept else if nat_lt written units then Patched else Made

abbrev pub change_words : ImageChange → List ℕ
change_words Absent = codes "no image"
change_words Made = codes "image made"
change_words Patched = codes "image patched"
change_words Kept = codes "image as before"

abbrev pub checked_words : ℕ → ℕ → List ℕ
checked_words checked units = codes "checked " ++ decimal checked ++ codes " of " ++ decimal units ++ codes " units, "

-- checked M of N units, what was done to the image, and how long it took
abbrev pub progress_line : ℕ → ℕ → ImageChange → ℕ → List ℕ
progress_line checked units change millis = checked_words checked units ++ change_words change ++ codes ", " ++ decimal millis ++ codes " ms\n"
