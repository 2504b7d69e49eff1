-- The result of the check of a unit, within bounds.
use Rattle.std.specs.Prelude.{◌≡◌, ℕ, List, [], ◌∷◌}
use Rattle.std.specs.List.{Contains}
use Rattle.std.specs.Str.{bytes_eq}
use Rattle.indexmap.specs.IndexSet.{insert_all}
use Rattle.al_base.specs.declared.unit_key.UnitKey.{UnitKey}
use Rattle.al_tree_syntax.specs.UnitTrees.{CompilationUnitTree}
use Rattle.al_unit_header.specs.Units.{header_of}
use Rattle.al_unit_graph.specs.Headers.{Header}
use Rattle.al_view.specs.declared.view.ViewKind.{ViewKind}
use Rattle.al_query.specs.Asked.{AsksOf, by_property}
use Rattle.al_query.specs.Known.{AreKnown, Grounded, known_after}
use Rattle.al_query.specs.Reads.{HoldsBy, Log, Table}
use Rattle.al_view_typed.specs.UnitTrees.{UnitTree}
use Rattle.al_query_outcome.specs.Defines.{DefinesParts}
use Rattle.al_query_outcome.specs.ReadsLaw.{AsksOthers, NamesOnly, named_by}
use Rattle.al_query_outcome.specs.Results.{Outcome, Faulty}
use Rattle.al_query_outcome.specs.declared.interface.UnitInterface.{UnitInterface}
use Rattle.al_check_bounded.specs.Bounding.{AreWordsOrTold, bounded}
use Rattle.al_check_bounded.specs.declared.bounds.Bounds.{Bounds}
use Rattle.al_check_promises.specs.Laws.{Promised}
use Rattle.al_check_promises.specs.SelfChecks.{is_kept, self_checked}
use Rattle.al_check_bounded.specs.Questions.{shown_by}
use Rattle.al_check_bounded.specs.declared.wanted.Wanted.{Wanted}
use Rattle.al_check_bounded.specs.LeftHere.{completed_by}
use Rattle.al_check_bounded.specs.Verdicts.{Verdict}
use Rattle.al_check_bounded.specs.Verdicts.Verdict.{Wrong, Right}
use Rattle.al_query_outcome.specs.Words.{words_of}
use Rattle.al_check_bounded.specs.Segments.{segments_from}

-- the questions that may show a unit what it uses of others: of the units that it knows, for the names that it may ask for, also before the stubs
-- whose names are in its own name
abbrev pub wanted_of : Bounds → Wanted
wanted_of b = record { units = b.known; stubs = segments_from [] b.unit.name; names = b.names }

-- the result of the check with this verdict, under a table within the bounds
abbrev pub concluded : Bounds → Header → Verdict → Table → Outcome
concluded b h (Wrong faults) t = Faulty faults
concluded b h (Right i tree) t = self_checked b.unit (shown_by (wanted_of b) t) (completed_by b h i tree t) i tree

-- the result of the check under a table, with the verdict that is found under it within the bounds
abbrev pub concluded_in : Bounds → Header → (Table → Verdict) → Table → Outcome
concluded_in b h verdict t = concluded b h (verdict (bounded b t)) (bounded b t)

-- the bounds of a unit with this source that knows these units, and these names from answers: it asks for the words of the source and for those
-- names
abbrev pub bounds_of : UnitKey → List ℕ → List UnitKey → List (List ℕ) → Bounds
bounds_of unit text known names_answered = record { unit = unit; known = known; names = insert_all bytes_eq (words_of text) names_answered }

-- the check of a unit with a source that is parsed as this tree, by the units known, the names from answers, and the verdict
abbrev pub meaning_within : (UnitKey → Header → Table → List UnitKey) → (UnitKey → Header → Table → List (List ℕ)) → (UnitKey → List ℕ → CompilationUnitTree → Table → Verdict) → UnitKey → List ℕ → CompilationUnitTree → Table → Outcome
meaning_within units names verdict unit text tree t = concluded_in (bounds_of unit text (units unit (header_of tree) t) (names unit (header_of tree) t)) (header_of tree) (verdict unit text tree) t

-- the first views are some of the second, and the unit is kept with the first if, and only if, it is kept with the second
pub record IsAsGood (b : Bounds) (i : UnitInterface) (tree : UnitTree) (views all : List ViewKind) : Type 0 where
  pub among : (v : ViewKind) → Contains views v → Contains all v
  pub same : is_kept b.unit views i tree ≡ is_kept b.unit all i tree

-- the bounds of a unit with this header and this source, after what was asked for them
pub record AreBounds (units : Table → List UnitKey) (names : Table → List (List ℕ)) (h : Header) (unit : UnitKey) (text : List ℕ) (log : Log) (b : Bounds) : Type 0 where
  pub answered : HoldsBy log (λ t. b ≡ bounds_of unit text (units t) (names t))
  pub own : b.unit ≡ unit
  pub names_answered : AreWordsOrTold (words_of text) log b.names
  pub asks : AsksOf (named_by h) by_property [] log
  pub others : AsksOthers unit log
  pub known : AreKnown (known_after (named_by h) log) b.known

-- the check of a unit with this header gave this, by what was asked: its meaning under every table that agrees, the units that it names, what a
-- check promises, and what it completes
pub record IsChecked (unit : UnitKey) (h : Header) (means : Table → Outcome) (log : Log) (outcome : Outcome) : Type 0 where
  pub meaning : HoldsBy log (λ t. outcome ≡ means t)
  pub grounded : Grounded (named_by h) log
  pub names : NamesOnly (unit ∷ known_after (named_by h) log) outcome
  pub promised : Promised unit log outcome
  pub parts : HoldsBy log (λ t. DefinesParts unit h t outcome)
