-- The commands of a watch.
use Rattle.std.specs.Prelude.{ℕ, List, codes, if◌then◌else◌}
use Rattle.std.specs.Str.{bytes_eq}
use Rattle.al_folder.specs.declared.words.WatchWord.{WatchWord}
use Rattle.al_folder.specs.declared.words.WatchWord.TheVariants.{Build, Run, Order, Obsolete, Quit, Unknown}

-- an empty line asks for a build
abbrev pub watch_word : List ℕ → WatchWord
watch_word line =
    if bytes_eq line (codes "") then Build
    else if bytes_eq line (codes "run") then Run
    else if bytes_eq line (codes "order") then Order
    else if bytes_eq line (codes "obsolete") then Obsolete
    else if bytes_eq line (codes "quit") then Quit
    else Unknown
