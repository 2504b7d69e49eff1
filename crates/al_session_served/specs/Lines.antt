-- How the bytes of the input are cut into commands.
use Rattle.std.specs.Prelude.{ℕ, ◌+◌, ◌-◌, ◌*◌, ◌≤◌, Bool, true, false, ◌&&◌, ◌==◌, nat_lt, nat_le, List, [], ◌∷◌, length, map, take, drop, slice_index, fold, Option, Some, None, codes, if◌then◌else◌}
use Rattle.std.specs.List.{list_all, slice_split}
use Rattle.std.specs.Char.{to_ascii_lowercase}
use Rattle.std.specs.Str.{bytes_eq}
use Rattle.al_base.specs.Identifiers.{is_unit_name}
use Rattle.al_session_stream.specs.Cuts.{cut_at}
use Rattle.al_session_served.specs.declared.subject.ReportKind.{ReportKind}
use Rattle.al_session_served.specs.declared.subject.ReportKind.TheVariants.{Diagnostics, Order, Image}

-- a command, with the bytes that follow a put
pub data Command : Type 0 where
  Put : List ℕ → List ℕ → Command
  Delete : List ℕ → Command
  Rename : List ℕ → List ℕ → Command
  -- the unit's name in lower case
  Build : List ℕ → Command
  -- at most so many events
  Run : ℕ → Command
  -- of the last build
  Report : ReportKind → Command
  -- the files and their units as they are
  ReportUnits : Command
  -- the units that are obsolete since the last build
  ReportObsolete : Command
  Quit : Command
  -- a line of another form
  Bad : Command
  -- a put whose length or bytes are malformed
  BadLength : Command

-- a line as a command
pub data LineKind : Type 0 where
  PutLine : List ℕ → ℕ → LineKind
  BadPutLine : LineKind
  WholeLine : Command → LineKind

-- the words of a line, separated by one space
abbrev pub words_of : List ℕ → List (List ℕ)
words_of line = slice_split (λ b. b == 32) line

-- at least one digit, and at most so many
unfoldable pub is_numeral : ℕ → List ℕ → Bool
is_numeral most word = nat_lt 0 (length word) && nat_le (length word) most && list_all (λ b. nat_le 48 b && nat_le b 57) word

-- the number that digits spell
abbrev pub number_of : List ℕ → ℕ
number_of word = fold (λ n b. 10 * n + (b - 48)) 0 word

-- the value of a numeral of so many digits at most
abbrev pub numeral : ℕ → List ℕ → Option ℕ
numeral most word = if is_numeral most word then Some (number_of word) else None

abbrev pub put_line : List ℕ → Option ℕ → LineKind
put_line name (Some len) = PutLine name len
put_line name None = BadPutLine

-- at most 1,000,000,000 events
abbrev pub run_line : Option ℕ → LineKind
run_line (Some steps) = if nat_le steps 1000000000 then WholeLine (Run steps) else WholeLine Bad
run_line None = WholeLine Bad

abbrev pub build_line : List ℕ → LineKind
build_line unit = if is_unit_name unit then WholeLine (Build (map to_ascii_lowercase unit)) else WholeLine Bad

abbrev pub report_line : List ℕ → LineKind
report_line subject =
    if bytes_eq subject (codes "diagnostics") then WholeLine (Report Diagnostics)
    else if bytes_eq subject (codes "units") then WholeLine ReportUnits
    else if bytes_eq subject (codes "obsolete") then WholeLine ReportObsolete
    else if bytes_eq subject (codes "order") then WholeLine (Report Order)
    else if bytes_eq subject (codes "image") then WholeLine (Report Image)
    else WholeLine Bad

-- the words as a command; an empty word makes a line of another form
abbrev pub by_words : List (List ℕ) → LineKind
by_words (verb ∷ []) = if bytes_eq verb (codes "quit") then WholeLine Quit else WholeLine Bad
by_words (verb ∷ x ∷ []) =
    if bytes_eq verb (codes "delete") && nat_lt 0 (length x) then WholeLine (Delete x)
    else if bytes_eq verb (codes "build") then build_line x
    else if bytes_eq verb (codes "run") then run_line (numeral 10 x)
    else if bytes_eq verb (codes "report") then report_line x
    else WholeLine Bad
by_words (verb ∷ x ∷ y ∷ []) =
    if nat_lt 0 (length x) && nat_lt 0 (length y)
    then (if bytes_eq verb (codes "put") then put_line x (numeral 9 y)
    else if bytes_eq verb (codes "rename") then WholeLine (Rename x y)
    else WholeLine Bad)
    else WholeLine Bad
by_words other = WholeLine Bad

-- a line of more than 600 bytes is of another form
unfoldable pub line_of : List ℕ → LineKind
line_of line = if nat_lt 600 (length line) then WholeLine Bad else by_words (words_of line)

-- the bytes of a put and the line end after them; after a malformed one nothing counts
unfoldable pub after_put : Bool → List ℕ → ℕ → List ℕ → Option (Command × List ℕ)
after_put at_end name len rest =
    if nat_lt len (length rest)
    then (if slice_index rest len == 10 then Some (Put name (take len rest), drop (len + 1) rest) else Some (BadLength, []))
    else (if at_end then Some (BadLength, []) else None)

abbrev pub after_line : Bool → LineKind → List ℕ → Option (Command × List ℕ)
after_line at_end (PutLine name len) rest = after_put at_end name len rest
after_line at_end BadPutLine rest = Some (BadLength, [])
after_line at_end (WholeLine command) rest = Some (command, rest)

abbrev pub by_cut : Bool → List ℕ → Option (List ℕ × List ℕ) → Option (Command × List ℕ)
by_cut at_end bytes (Some cut) = after_line at_end (line_of cut.0) cut.1
by_cut true (b ∷ bs) None = after_line true (line_of (b ∷ bs)) []
by_cut true [] None = None
by_cut false bytes None = None

-- The first command that is whole at the beginning of the bytes, and the bytes after it. At the end of the input the last line needs no line end,
-- and a put that is cut short is malformed.
unfoldable pub first : Bool → List ℕ → Option (Command × List ℕ)
first at_end bytes = by_cut at_end bytes (cut_at 10 bytes)

-- a run of at most 1,000,000,000 events, or another command
abbrev pub HasFewSteps : Command → Type 0
HasFewSteps (Run steps) = steps ≤ 1000000000
HasFewSteps other = Unit {0}

abbrev pub KindHasFewSteps : LineKind → Type 0
KindHasFewSteps (WholeLine command) = HasFewSteps command
KindHasFewSteps other = Unit {0}
