-- The questions that a unit may ask, and a table of answers within these bounds.
use Rattle.std.specs.Prelude.{◌≡◌, ℕ, Bool, true, ◌&&◌, not, List, ◌++◌, if◌then◌else◌}
use Rattle.std.specs.List.{list_any}
use Rattle.std.specs.Str.{bytes_eq}
use Rattle.al_view.specs.Symbols.{same_unit}
use Rattle.al_query.specs.declared.query.Query.{Query}
use Rattle.al_query.specs.Known.{has_unit}
use Rattle.al_query.specs.Queries.{unit_of}
use Rattle.al_query.specs.Reads.{Log, Table}
use Rattle.al_query.specs.AnsweredNames.{told_names}
use Rattle.al_query_outcome.specs.ReadsLaw.{is_by_names}
use Rattle.al_query_outcome.specs.Tables.{no_answer}
use Rattle.al_check_bounded.specs.declared.bounds.Bounds.{Bounds}

-- each of these names is one of those words, or is in an answer of the log
abbrev pub AreWordsOrTold : List (List ℕ) → Log → List (List ℕ) → Type 0
AreWordsOrTold words log names = (name : List ℕ) → list_any (bytes_eq name) names ≡ true → list_any (bytes_eq name) (words ++ told_names log) ≡ true

-- a question may be asked if it is of a known unit other than the one that asks, and for one of the names or for a property
abbrev pub may_ask : Bounds → Query → Bool
may_ask b q = has_unit b.known (unit_of q) && (not (same_unit b.unit (unit_of q)) && is_by_names b.unit b.names q)

-- a question may be asked, whatever was asked before
abbrev pub allowed : Bounds → Log → Query → Bool
allowed b log q = may_ask b q

-- the table within the bounds: any other question has the answer of a unit that doesn't exist
abbrev pub bounded : Bounds → Table → Table
bounded b t q = if may_ask b q then t q else no_answer q
