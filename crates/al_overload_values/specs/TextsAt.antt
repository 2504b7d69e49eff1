-- What texts are at their place, each with the first fault in the prefixes of its attributes; if a name of the text has E401 or E404, that is all.
-- The names of each text are looked up there, by a table of answers.
use Rattle.std.specs.Prelude.{List, Option, None, Result, Ok}
use Rattle.al_base.specs.declared.place.Place.{Place}
use Rattle.al_base.specs.declared.unit_key.UnitKey.{UnitKey}
use Rattle.al_overload.specs.declared.everywhere.Predefined.{Predefined}
use Rattle.al_base_fault.specs.Faults.{earlier}
use Rattle.al_base_fault.specs.Judging.{both, next, map_ok, unless}
use Rattle.al_base_fault.specs.declared.fault.Fault.{Fault}
use Rattle.al_overload_lookup.specs.Keys.{Denotations}
use Rattle.al_overload_lookup.specs.Places.{first_place}
use Rattle.al_overload_values.specs.Texts.{text_fault}
use Rattle.al_query.specs.Reads.{Table}
use Rattle.al_overload_readings.specs.Readings.{ReadTree}
use Rattle.al_overload_readings.specs.ReadingViews.{reading_model}
use Rattle.al_overload_readings.specs.declared.reading.Reading.{Reading}
use Rattle.al_scope.specs.Places as scopes
use Rattle.al_tree_syntax.specs.DeclarationTrees.{RangeTree}
use Rattle.al_tree_syntax.specs.ExpressionTrees.{ExpressionTree}
use Rattle.al_overload.specs.Terms.{TermTree}
use Rattle.al_overload.specs.TermViews.{term_model}
use Rattle.al_overload.specs.declared.heads_term.Term.{Term}
use Rattle.al_overload_readings.specs.Texts.{one_range, read, term_of}
use Rattle.al_overload_values.specs.TermsAt.{denotations_at}
use Rattle.al_view.specs.declared.symbol.Symbol.{Symbol}
use Rattle.al_view.specs.declared.view.SubtypeView.{SubtypeView}

-- with what was found in prefixes
abbrev pub With : Type 0 → Type 0
With A = A × Option Fault

abbrev pub with_fault : {A : Type 0} → Option Fault → A → With A
with_fault fault x = (x, fault)

abbrev pub term_with_model : Term × Option Fault → With TermTree
term_with_model x = (term_model x.0, x.1)

abbrev pub reading_with_model : Reading × Option Fault → With ReadTree
reading_with_model x = (reading_model x.0, x.1)

abbrev pub terms_with_model : (Term × Term) × Option Fault → With (TermTree × TermTree)
terms_with_model x = ((term_model x.0.0, term_model x.0.1), x.1)

-- ---- by what the names of the text denote

abbrev pub term_with : Predefined → Option Symbol → Denotations → Place → ExpressionTree → Result (With TermTree) Fault
term_with p own d at x = map_ok (with_fault (text_fault p own d at None x)) (term_of d x)

abbrev pub read_with : Predefined → Option Symbol → Denotations → Place → ExpressionTree → Result (With ReadTree) Fault
read_with p own d at x = map_ok (with_fault (text_fault p own d at None x)) (read d x)

-- a range by itself has no other faults than these
abbrev pub range_with : Predefined → Option Symbol → Denotations → Place → ExpressionTree → Result SubtypeView Fault
range_with p own d at x = next (one_range x (read d x)) (λ (s : SubtypeView). unless (text_fault p own d at None x) (Ok s))

-- ---- at a place

-- the term of a text in a context that begins there
abbrev pub term_with_at : Table → scopes.Place → List UnitKey → Predefined → Option Symbol → Place → ExpressionTree → Result (With TermTree) Fault
term_with_at t place packages p own at x = term_with p own (denotations_at t place packages x) at x

-- the term of a text that is a context
abbrev pub context_with_at : Table → scopes.Place → List UnitKey → Predefined → Option Symbol → ExpressionTree → Result (With TermTree) Fault
context_with_at t place packages p own x = term_with_at t place packages p own (first_place x) x

-- the terms of two bounds, which are one context
abbrev pub joined : With TermTree × With TermTree → With (TermTree × TermTree)
joined b = ((b.0.0, b.1.0), earlier b.0.1 b.1.1)

abbrev pub bounds_with_at : Table → scopes.Place → List UnitKey → Predefined → Option Symbol → RangeTree → Result (With (TermTree × TermTree)) Fault
bounds_with_at t place packages p own r =
    map_ok joined (both (term_with_at t place packages p own (first_place r.low) r.low) (term_with_at t place packages p own (first_place r.low) r.high))

-- what a text that is a context may be, until what is round it is known
abbrev pub read_with_at : Table → scopes.Place → List UnitKey → Predefined → Option Symbol → ExpressionTree → Result (With ReadTree) Fault
read_with_at t place packages p own x = read_with p own (denotations_at t place packages x) (first_place x) x

-- the subtype that it names as a range by itself: a mark or a Range attribute
abbrev pub range_with_at : Table → scopes.Place → List UnitKey → Predefined → Option Symbol → ExpressionTree → Result SubtypeView Fault
range_with_at t place packages p own x = range_with p own (denotations_at t place packages x) (first_place x) x
