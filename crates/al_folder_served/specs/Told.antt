-- What builds and runs print.
use Rattle.std.specs.Prelude.{◌≡◌, ◌⊎◌, ℕ, Bool, true, false, ◌++◌, List, [], ◌∷◌, codes, length, take, ◌-◌, nat_eq, Option, Some, None, IfSome, if◌then◌else◌}
use Rattle.std.specs.List.{ends_with}
use Rattle.std.specs.Str.{bytes_eq}
use Rattle.al_base.specs.Batch.{Key}
use Rattle.al_base.specs.Files.{Texts}
use Rattle.al_folder.specs.Diagnostics.{diagnostics_text}
use Rattle.al_folder_served.specs.declared.reasons.Reasons.{Reasons}
use Rattle.al_folder.specs.Messages.{message_text}
use Rattle.al_folder_served.specs.Orders.{order_text}
use Rattle.al_folder.specs.Parts.{part_lines}
use Rattle.al_folder.specs.Runs.{end_text}
use Rattle.al_folder.specs.declared.runs.RunEnd.{RunEnd}
use Rattle.al_folder.specs.declared.runs.RunEnd.TheVariants.{Finished, Idle, Spent, Stuck, Raised}
use Rattle.al_folder.specs.declared.status.Ending.{Ending}
use Rattle.al_folder.specs.declared.status.Ending.TheVariants.{Done, NotBuilt, Usage, ByException}
use Rattle.al_folder.specs.Faults.{no_main, no_body, no_subunit, too_large, cycle_text}
use Rattle.al_session_served.specs.Builds.{BuildResult, Faulty, NoMain, NoBody, NoSubunit, Cycle, TooLarge, Made}

-- the end of a program's line that has none, which comes before a message
abbrev pub line_end : Bool → List ℕ
line_end true = codes "\n"
line_end false = []

-- an error message, on a line of its own, about a file: its name and the rest
abbrev pub error_told : Bool → List ℕ → List (List ℕ) → List ℕ
error_told is_open file rest = line_end is_open ++ message_text (codes "error: " ∷ file ∷ rest)

-- why a build of a main unit gave no program; nothing if it gave one; the sources are in these folders
abbrev pub build_text : Texts → Texts → Bool → List ℕ → BuildResult → List ℕ
build_text folders texts is_plain main (Faulty found) = diagnostics_text folders texts is_plain found
build_text folders texts is_plain main NoMain = no_main main
build_text folders texts is_plain main (NoBody name) = no_body name
build_text folders texts is_plain main (NoSubunit name) = no_subunit name
build_text folders texts is_plain main (Cycle lines) = cycle_text lines
build_text folders texts is_plain main (TooLarge order) = too_large
build_text folders texts is_plain main (Made order image) = []

-- why a build gave no program, beginning with a line of its own; nothing if it gave one
abbrev pub told_of : Bool → Texts → Texts → Bool → List ℕ → BuildResult → List ℕ
told_of is_open folders texts is_plain main (Faulty found) = line_end is_open ++ build_text folders texts is_plain main (Faulty found)
told_of is_open folders texts is_plain main NoMain = line_end is_open ++ build_text folders texts is_plain main NoMain
told_of is_open folders texts is_plain main (NoBody name) = line_end is_open ++ build_text folders texts is_plain main (NoBody name)
told_of is_open folders texts is_plain main (NoSubunit name) = line_end is_open ++ build_text folders texts is_plain main (NoSubunit name)
told_of is_open folders texts is_plain main (Cycle lines) = line_end is_open ++ build_text folders texts is_plain main (Cycle lines)
told_of is_open folders texts is_plain main (TooLarge order) = line_end is_open ++ build_text folders texts is_plain main (TooLarge order)
told_of is_open folders texts is_plain main (Made order image) = []

-- why the last build gave no program, if there was one
abbrev pub last_told : Bool → Texts → Texts → Bool → Option (List ℕ × BuildResult) → List ℕ
last_told is_open folders texts is_plain None = []
last_told is_open folders texts is_plain (Some gave) = told_of is_open folders texts is_plain gave.0 gave.1

-- whether diagnostics are why a build gave no program
abbrev pub is_faulty : BuildResult → Bool
is_faulty (Faulty found) = true
is_faulty NoMain = false
is_faulty (NoBody name) = false
is_faulty (NoSubunit name) = false
is_faulty (Cycle lines) = false
is_faulty (TooLarge order) = false
is_faulty (Made order image) = false

-- whether diagnostics are why the last build gave no program
abbrev pub was_faulty : Option (List ℕ × BuildResult) → Bool
was_faulty None = false
was_faulty (Some gave) = is_faulty gave.1

-- the units that a build checked
abbrev pub checked_told : Bool → List Key → List ℕ
checked_told is_open [] = line_end is_open ++ message_text (codes "no unit was checked" ∷ [])
checked_told is_open (unit ∷ units) = line_end is_open ++ part_lines (unit ∷ units)

-- whether nothing is printed for such an end of a run
abbrev pub is_silent : RunEnd → Bool
is_silent Finished = true
is_silent Idle = false
is_silent Spent = false
is_silent Stuck = false
is_silent (Raised exception unit line) = false

-- how a run ended, beginning with a line of its own; nothing if all tasks have ended
abbrev pub end_told : Bool → Texts → RunEnd → List ℕ
end_told is_open folders Finished = []
end_told is_open folders Idle = line_end is_open ++ end_text folders Idle
end_told is_open folders Spent = line_end is_open ++ end_text folders Spent
end_told is_open folders Stuck = line_end is_open ++ end_text folders Stuck
end_told is_open folders (Raised exception unit line) = line_end is_open ++ end_text folders (Raised exception unit line)

-- the first ending unless all is done, and else the second
abbrev pub worse_of : Ending → Ending → Ending
worse_of Done second = second
worse_of NotBuilt second = NotBuilt
worse_of Usage second = Usage
worse_of ByException second = ByException

-- an order is printed with its reasons, if there is one
abbrev pub PutsOrder : (Texts → List Key → List Reasons → Type 0) → Texts → Option (List Key) → (List ℕ → Type 0) → Type 0
PutsOrder AreReasons texts order Puts = IfSome order (λ items. (reasons : List Reasons) × AreReasons texts items reasons × Puts (order_text reasons))

-- there is no program, and a message about a file was printed
abbrev pub IsRefused : List ℕ → (List ℕ → Type 0) → Ending → Type 0
IsRefused file Tells ending = (ending ≡ NotBuilt) × ((is_open : Bool) × (rest : List (List ℕ)) × Tells (error_told is_open file rest))

-- a file holds these bytes; or it doesn't, and the cause was printed
abbrev pub IsSaved : (List ℕ → List ℕ → Type 0) → List ℕ → List ℕ → (List ℕ → Type 0) → Ending → Type 0
IsSaved Holds file bytes Tells ending = ((ending ≡ Done) × Holds file bytes) ⊎ IsRefused file Tells ending

-- if a file is named, the image is saved in it, with this ending; if not, nothing is done
abbrev pub IsSavedIf : {F : Type 0} → Option F → (F → Ending → Type 0) → Ending → Type 0
IsSavedIf None Saved ending = ending ≡ Done
IsSavedIf (Some file) Saved ending = Saved file ending

-- the image is saved, and then run, each if it is asked for: the ending is the first unless that is Done
abbrev pub EndsSaved : {F : Type 0} → Option F → (F → Ending → Type 0) → Bool → Ending → Type 0
EndsSaved file Saved runs ending = (saved : Ending) × (ran : Ending) × IsSavedIf file Saved saved × (ending ≡ worse_of saved ran) × (runs ≡ false → ran ≡ Done)

-- the words of a watch
abbrev pub words_text : List ℕ
words_text = message_text (codes "the words are run, order, checked, why UNIT, obsolete and quit, and an empty line builds" ∷ [])

-- a line without the CR at its end, which terminals of other systems send before LF
abbrev pub without_return : List ℕ → List ℕ
without_return line = if ends_with nat_eq line (13 ∷ []) then take (length line - 1) line else line

-- whether a line asks which units were checked
abbrev pub asks_checked : List ℕ → Bool
asks_checked line = bytes_eq line (codes "checked")
