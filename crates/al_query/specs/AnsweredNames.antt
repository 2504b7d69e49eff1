-- The names that answers give, which may be asked for then.
use Rattle.std.specs.Prelude.{◌≡◌, ℕ, true, List}
use Rattle.std.specs.List.{flat_map, list_any}
use Rattle.std.specs.Str.{bytes_eq}
use Rattle.al_query.specs.Answers.{names_told}
use Rattle.al_query.specs.Reads.{Log}

-- the names that the answers of a log give
abbrev pub told_names : Log → List (List ℕ)
told_names log = flat_map (λ e. names_told e.1) log

-- an answer of the log gives each of these names
abbrev pub AreTold : Log → List (List ℕ) → Type 0
AreTold log names = (name : List ℕ) → list_any (bytes_eq name) names ≡ true → list_any (bytes_eq name) (told_names log) ≡ true
