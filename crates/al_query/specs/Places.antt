-- The places of the questions of a log in it.
use Rattle.std.specs.Prelude.{◌≡◌, ℕ, zero, suc, List, [], ◌∷◌, Option, Some, None, if◌then◌else◌}
use Rattle.std.specs.Map.{lookup}
use Rattle.std.specs.Option.{option_map}
use Rattle.al_query.specs.declared.query.Query.{Query}
use Rattle.al_query.specs.Queries.{same_query}
use Rattle.al_query.specs.Reads.{Log}

-- the place of a question in the log, from 0
abbrev pub place_of : Log → Query → Option ℕ
place_of [] q = None
place_of (e ∷ es) q = if same_query q e.0 then Some zero else option_map suc (place_of es q)

-- the places are those of the log's questions
abbrev pub AreIndexed : Log → List (Query × ℕ) → Type 0
AreIndexed log places = (q : Query) → lookup (same_query q) places ≡ place_of log q
