-- Which format the ending of a file's name tells.
use Rattle.std.specs.Prelude.{ℕ, ◌==◌, Bool, List, Option, Some, None, codes, if◌then◌else◌}
use Rattle.std.specs.List.{ends_with}
use Rattle.al_trace.specs.declared.format.TraceFormat.{TraceFormat}
use Rattle.al_trace.specs.declared.format.TraceFormat.TheVariants.{Text, ValueChanges, Json, Picture}

abbrev pub ends_in : List ℕ → List ℕ → Bool
ends_in file ending = ends_with (λ a b. a == b) file ending

abbrev pub format_of : List ℕ → Option TraceFormat
format_of file =
    if ends_in file (codes ".txt") then Some Text
    else if ends_in file (codes ".vcd") then Some ValueChanges
    else if ends_in file (codes ".json") then Some Json
    else if ends_in file (codes ".svg") then Some Picture
    else None
