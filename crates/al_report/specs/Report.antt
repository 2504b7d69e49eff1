-- Diagnostics with notes, as they are printed.
use Rattle.std.specs.Prelude.{ℕ, zero, suc, Bool, ◌++◌, ◌==◌, List, [], ◌∷◌, codes, decimal, if◌then◌else◌}
use Rattle.std.specs.List.{flat_map}
use Rattle.al_base.specs.Batch.{finding_of}
use Rattle.al_base.specs.Files.{Texts}
use Rattle.al_folder.specs.Diagnostics.{told_text, count_line}
use Rattle.al_folder.specs.Messages.{shown_bytes}
use Rattle.al_report.specs.declared.causes.Cause.{Cause}
use Rattle.al_report.specs.declared.counts.Counts.{Counts}
use Rattle.al_report.specs.declared.noted.Noted.{Noted}

abbrev pub note_line : List ℕ → List ℕ
note_line note = codes "note: " ++ shown_bytes note ++ codes "\n"

-- a diagnostic with the line of its source, and then the notes on it
abbrev pub noted_text : Texts → Texts → Bool → Noted → List ℕ
noted_text folders texts is_plain n =
    told_text folders texts is_plain (finding_of n.diagnostic.now) ++ flat_map (λ note. note_line note.items) n.notes.items

abbrev pub cause_text : Cause → List ℕ
cause_text c = decimal c.units ++ codes " on " ++ c.file.items

-- the mark before the cause of a number: this one before the first
abbrev pub mark_at : List ℕ → ℕ → List ℕ
mark_at mark zero = mark
mark_at mark (suc n) = codes ", "

-- the causes, with a mark before the first, and a comma before each other
unfoldable pub causes_text : List ℕ → List Cause → List ℕ
causes_text mark [] = []
causes_text mark (c ∷ cs) = mark ++ cause_text c ++ causes_text (codes ", ") cs

abbrev pub dependents_words : ℕ → List ℕ
dependents_words n = if n == 1 then codes " unit depends on these and wasn't checked" else codes " units depend on these and weren't checked"

-- how many units weren't checked, if any wasn't, and for which files
abbrev pub dependents_text : ℕ → List Cause → List ℕ
dependents_text n causes = if n == 0 then [] else decimal n ++ dependents_words n ++ causes_text (codes ": ") causes ++ codes "\n"

-- the diagnostics with their notes, how many errors there are, and which units weren't checked
abbrev pub report_text : Texts → Texts → Bool → List Noted → Counts → List Cause → List ℕ
report_text folders texts is_plain told counts causes =
    flat_map (noted_text folders texts is_plain) told ++ count_line counts.errors ++ dependents_text counts.dependents causes
