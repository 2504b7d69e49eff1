-- Diagnostics, as they are printed.
use Rattle.std.specs.Prelude.{ℕ, Bool, true, false, ◌-◌, ◌++◌, ◌==◌, List, [], length, codes, decimal, Option, Some, None, unwrap_or, if◌then◌else◌}
use Rattle.std.specs.List.{flat_map}
use Rattle.std.specs.Str.{bytes_eq}
use Rattle.al_base.specs.Batch.{Finding}
use Rattle.al_base.specs.Files.{Texts, text_of}
use Rattle.al_base_words.specs.Messages.{message_of}
use Rattle.al_folder.specs.Lines.{line_of}
use Rattle.al_folder.specs.Excerpts.{excerpt}
use Rattle.al_folder.specs.Messages.{shown_bytes}

-- the folder of a file; empty for the current folder
abbrev pub named_folder : List ℕ → List ℕ
named_folder folder = if bytes_eq folder (codes ".") then [] else folder

-- the separator between a folder and the name of a file
abbrev pub separator : List ℕ → List ℕ
separator folder = if bytes_eq folder (codes ".") then [] else if bytes_eq folder (codes "/") then [] else codes "/"

-- what comes before the name of a file in a folder: nothing for the current folder
abbrev pub folder_words : List ℕ → List ℕ
folder_words folder = shown_bytes (named_folder folder) ++ separator folder

-- FOLDER/FILE:LINE:COL: error: CODE TEXT
abbrev pub diagnostic_line : List ℕ → Finding → List ℕ
diagnostic_line folder f =
    folder_words folder ++ f.file ++ codes ":" ++ decimal f.line ++ codes ":" ++ decimal f.col ++ codes ": error: " ++ message_of f.code ++ codes "\n"

-- the line of the source with a caret under the place, if there is a source
abbrev pub source_lines : ℕ → ℕ → Option (List ℕ) → List ℕ
source_lines line col None = []
source_lines line col (Some text) = excerpt (col - 1) (line_of line text)

-- a diagnostic, and its line if there is a source
abbrev pub diagnostic_text : List ℕ → Finding → Option (List ℕ) → List ℕ
diagnostic_text folder f text = diagnostic_line folder f ++ source_lines f.line f.col text

-- the folder of a file; the current one if none is given
abbrev pub folder_of : Texts → List ℕ → List ℕ
folder_of folders file = unwrap_or (text_of folders file) (codes ".")

-- the source of a file, if it is shown
abbrev pub text_shown : Bool → Texts → List ℕ → Option (List ℕ)
text_shown true texts file = None
text_shown false texts file = text_of texts file

-- a diagnostic of one of these sources, whose files are in these folders: with a line of its source, or plain
abbrev pub told_text : Texts → Texts → Bool → Finding → List ℕ
told_text folders texts is_plain f = diagnostic_text (folder_of folders f.file) f (text_shown is_plain texts f.file)

abbrev pub errors_word : ℕ → List ℕ
errors_word n = if n == 1 then codes " error\n" else codes " errors\n"

-- how many errors there are
abbrev pub count_line : ℕ → List ℕ
count_line n = decimal n ++ errors_word n

-- all diagnostics, and their number
abbrev pub diagnostics_text : Texts → Texts → Bool → List Finding → List ℕ
diagnostics_text folders texts is_plain fs = flat_map (told_text folders texts is_plain) fs ++ count_line (length fs)
