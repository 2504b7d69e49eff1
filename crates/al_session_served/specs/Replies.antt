-- The bytes of replies.
use Rattle.std.specs.Prelude.{ℕ, List, [], ◌++◌, length, codes, decimal, Option, Some, None}
use Rattle.std.specs.List.{flat_map}
use Rattle.al_base.specs.declared.unit_key.UnitKind.{UnitKind}
use Rattle.al_base.specs.declared.unit_key.UnitKind.TheVariants.{Decl, Body, Sub}
use Rattle.al_base.specs.declared.refusal.Refusal.{Refusal}
use Rattle.al_base.specs.declared.refusal.Refusal.TheVariants.{NotBuilt, NoImage}
use Rattle.al_base.specs.Refusals as refusals
use Rattle.al_base_words.specs.Messages.{message_of}
use Rattle.al_base_words.specs.Refusals.{word_of}
use Rattle.al_base.specs.Batch.{Finding, Key, key_of}
use Rattle.al_base_graph.specs.declared.edge.Reason.{Reason}
use Rattle.al_base_graph.specs.declared.edge.Reason.TheVariants.{Depends, Elaborate, ElaborateAll}
use Rattle.al_session_stream.specs.Hexadecimal.{hex_lines}
use Rattle.al_session_served.specs.Builds.{BuildResult, Faulty, NoMain, NoBody, NoSubunit, Cycle, TooLarge, Made, Run, findings_of, order_of, image_of}
use Rattle.al_session_served.specs.Library.{LastBuild}
use Rattle.al_session_served.specs.declared.run.Exception.{Exception}
use Rattle.al_session_served.specs.declared.run.Exception.TheVariants.{Constraint, Program, Storage}
use Rattle.al_session_served.specs.declared.run.RunEnd.{RunEnd}
use Rattle.al_session_served.specs.declared.run.RunEnd.TheVariants.{Finished, Idle, Spent, Stuck, Raised}
use Rattle.al_session_served.specs.declared.subject.ReportKind.{ReportKind}
use Rattle.al_session_served.specs.declared.subject.ReportKind.TheVariants.{Diagnostics, Order, Image}

abbrev pub line_end : List ℕ
line_end = codes "\n"

abbrev pub ok : List ℕ
ok = codes "ok\n"

-- `refused`, the number and the word
abbrev pub refused : Refusal → List ℕ
refused refusal = codes "refused " ++ decimal (refusals.number_of refusal) ++ codes " " ++ word_of refusal ++ line_end

-- FILE:LINE:COL: CODE TEXT
abbrev pub finding_line : Finding → List ℕ
finding_line f = f.file ++ codes ":" ++ decimal f.line ++ codes ":" ++ decimal f.col ++ codes ": " ++ message_of f.code ++ line_end

abbrev pub kind_word : UnitKind → List ℕ
kind_word Decl = codes "decl"
kind_word Body = codes "body"
kind_word Sub = codes "sub"

-- UNIT KIND
abbrev pub key_words : Key → List ℕ
key_words key = key.0 ++ codes " " ++ kind_word key.1

abbrev pub key_line : Key → List ℕ
key_line key = key_words key ++ line_end

-- why an item comes after another one: it depends on it, or a pragma says so (ARM 10.2.1)
abbrev pub reason_word : Reason → List ℕ
reason_word Depends = codes "depends"
reason_word Elaborate = codes "elaborate"
reason_word ElaborateAll = codes "elaborate_all"

-- X after Y by REASON
abbrev pub cycle_line : Key × Key × Reason → List ℕ
cycle_line line = key_words line.0 ++ codes " after " ++ key_words line.1 ++ codes " by " ++ reason_word line.2 ++ line_end

-- FILE KIND UNIT, or FILE fault if the file holds no unit without errors
abbrev pub file_line : List ℕ × Option Key → List ℕ
file_line (file, Some key) = file ++ codes " " ++ kind_word key.1 ++ codes " " ++ key.0 ++ line_end
file_line (file, None) = file ++ codes " fault\n"

abbrev pub exception_word : Exception → List ℕ
exception_word Constraint = codes "constraint_error"
exception_word Program = codes "program_error"
exception_word Storage = codes "storage_error"

-- the line of a source, if it is known
abbrev pub line_words : Option ℕ → List ℕ
line_words None = []
line_words (Some line) = codes " " ++ decimal line

-- how a run ended; if by an exception, the unit whose code raised it, and the line of its source
abbrev pub end_words : RunEnd → List ℕ
end_words Finished = codes "finished"
end_words Idle = codes "idle"
end_words Spent = codes "spent"
end_words Stuck = codes "stuck"
end_words (Raised exception unit line) = codes "raised " ++ exception_word exception ++ codes " " ++ key_words (key_of unit) ++ line_words line

-- a word, a number, and a line for each member
abbrev pub listing : {A : Type 0} → List ℕ → (A → List ℕ) → List A → List ℕ
listing word line members = word ++ decimal (length members) ++ line_end ++ flat_map line members

abbrev pub built_line : ℕ → ℕ → List ℕ
built_line items bytes = codes "built " ++ decimal items ++ codes " " ++ decimal bytes ++ line_end

-- what is missing in a partition, and the name of the unit
abbrev pub lack_line : List ℕ → List ℕ → List ℕ
lack_line word name = word ++ name ++ line_end

abbrev pub image_text : List ℕ → List ℕ
image_text image = codes "image " ++ decimal (length image) ++ line_end ++ hex_lines image

-- the reply to a build of this main unit
abbrev pub build_reply : List ℕ → BuildResult → List ℕ
build_reply main (Faulty findings) = listing (codes "failed ") finding_line findings
build_reply main NoMain = lack_line (codes "failed B1 main ") main
build_reply main (NoBody name) = lack_line (codes "failed B2 body ") name
build_reply main (NoSubunit name) = lack_line (codes "failed B3 subunit ") name
build_reply main (Cycle lines) = listing (codes "failed B4 cycle ") cycle_line lines
build_reply main (TooLarge order) = codes "failed L1 image too large\n"
build_reply main (Made order image) = built_line (length order) (length image)

abbrev pub order_reply : Option (List Key) → List ℕ
order_reply None = refused NoImage
order_reply (Some order) = listing (codes "order ") key_line order

abbrev pub image_reply : Option (List ℕ) → List ℕ
image_reply None = refused NoImage
image_reply (Some image) = image_text image

abbrev pub report_reply : ReportKind → BuildResult → List ℕ
report_reply Diagnostics gave = listing (codes "diagnostics ") finding_line (findings_of gave)
report_reply Order gave = order_reply (order_of gave)
report_reply Image gave = image_reply (image_of gave)

abbrev pub units_reply : List (List ℕ × Option Key) → List ℕ
units_reply files = listing (codes "units ") file_line files

-- the units that are obsolete since the last build, if there was one
abbrev pub obsolete_reply : Option (List Key) → List ℕ
obsolete_reply None = refused NotBuilt
obsolete_reply (Some units) = listing (codes "obsolete ") key_line units

-- the output is on lines of its own
abbrev pub run_reply : Run → List ℕ
run_reply run = codes "output " ++ decimal (length run.output) ++ line_end ++ run.output ++ codes "\nend " ++ end_words run.ended ++ line_end

-- reports about the last build
abbrev pub report_of : ReportKind → Option LastBuild → List ℕ
report_of subject None = refused NotBuilt
report_of subject (Some last) = report_reply subject last.gave

-- the reply to the last build
abbrev pub build_reply_of : Option LastBuild → List ℕ
build_reply_of None = []
build_reply_of (Some last) = build_reply last.main last.gave
