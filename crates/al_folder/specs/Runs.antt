-- The end of a run, as it is printed.
use Rattle.std.specs.Prelude.{ℕ, ◌++◌, nat_lt, List, [], length, codes, decimal, Option, Some, None, if◌then◌else◌}
use Rattle.al_base.specs.Batch.{Key, key_of}
use Rattle.al_base.specs.FileNames.{file_name_of}
use Rattle.al_base.specs.Files.{Texts}
use Rattle.al_folder.specs.Diagnostics.{folder_of, folder_words}
use Rattle.al_machine.specs.declared.instruction.Exception.{Exception}
use Rattle.al_machine.specs.declared.instruction.Exception.TheVariants.{Constraint, Program, Storage}
use Rattle.al_folder.specs.declared.runs.RunEnd.{RunEnd}
use Rattle.al_folder.specs.declared.runs.RunEnd.TheVariants.{Finished, Idle, Spent, Stuck, Raised}

abbrev pub exception_word : Exception → List ℕ
exception_word Constraint = codes "constraint_error"
exception_word Program = codes "program_error"
exception_word Storage = codes "storage_error"

-- the name of the file that holds the unit; the unit's name if that file's name would be too long
abbrev pub file_words : Key → List ℕ
file_words key = if nat_lt 251 (length key.0) then key.0 else file_name_of key

-- the number of a line, if it is known
abbrev pub line_words : Option ℕ → List ℕ
line_words None = codes "\n"
line_words (Some line) = codes ":" ++ decimal line ++ codes "\n"

-- a file after its folder
abbrev pub named_words : Texts → List ℕ → List ℕ
named_words folders file = folder_words (folder_of folders file) ++ file

-- nothing if all tasks have ended; the files are in these folders
abbrev pub end_text : Texts → RunEnd → List ℕ
end_text folders Finished = []
end_text folders Idle = codes "idle: each task waits, and nothing can wake one\n"
end_text folders Spent = codes "stopped: the steps are spent\n"
end_text folders Stuck = codes "stopped: the image is damaged\n"
end_text folders (Raised exception unit line) = codes "raised " ++ exception_word exception ++ codes ", " ++ named_words folders (file_words (key_of unit)) ++ line_words line
