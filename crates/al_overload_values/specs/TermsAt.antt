-- What texts are at their place, if these packages are mentioned: the names of each text are looked up there, by a table of answers
-- (ARM 4.1 to 4.7, 8.3).
use Rattle.std.specs.Prelude.{ℕ, List, ◌++◌, map, Result}
use Rattle.al_base.specs.declared.unit_key.UnitKey.{UnitKey}
use Rattle.al_base_fault.specs.declared.fault.Fault.{Fault}
use Rattle.al_overload_lookup.specs.Keys.{Denotations, denoted}
use Rattle.al_overload_lookup.specs.Lookups.{asked_name, names_at}
use Rattle.al_overload_lookup.specs.TextNames.{names_in}
use Rattle.al_query.specs.Reads.{Table}
use Rattle.al_scope.specs.Places.{Place}
use Rattle.al_tree_syntax.specs.DeclarationTrees.{RangeTree}
use Rattle.al_tree_syntax.specs.ExpressionTrees.{ExpressionTree}
use Rattle.al_overload.specs.Terms.{TermTree}
use Rattle.al_overload_readings.specs.Texts.{mark_of_text, term_of}
use Rattle.al_view.specs.declared.view.SubtypeView.{SubtypeView}

-- what the names of a text denote
abbrev pub denotations_at : Table → Place → List UnitKey → ExpressionTree → Denotations
denotations_at t place packages x = denoted (names_at t place packages x)

-- its term; the first E401 or E404 of its names
abbrev pub term_at : Table → Place → List UnitKey → ExpressionTree → Result TermTree Fault
term_at t place packages x = term_of (denotations_at t place packages x) x

-- the subtype that it names as a mark
abbrev pub mark_at : Table → Place → List UnitKey → ExpressionTree → Result SubtypeView Fault
mark_at t place packages x = mark_of_text (denotations_at t place packages x) x

-- ---- which names are asked for

-- the names in an expression, as they are asked for
abbrev pub text_names : ExpressionTree → List (List ℕ)
text_names x = map asked_name (names_in x)

-- the names in two bounds, as they are asked for
abbrev pub range_names : RangeTree → List (List ℕ)
range_names r = text_names r.low ++ text_names r.high
