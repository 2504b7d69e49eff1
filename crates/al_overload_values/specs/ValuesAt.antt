-- What expressions are at their places (ARM 8.6): their labelled trees with the words of their temporaries, or the first rule that is
-- broken in them. Their names are looked up by a table of answers.
use Rattle.std.specs.Prelude.{ℕ, List, [], Option, Some, None, Result}
use Rattle.al_overload.specs.declared.part.Nominal.{Nominal}
use Rattle.al_base_fault.specs.Judging.{next, unless}
use Rattle.al_base_fault.specs.declared.fault.Fault.{Fault}
use Rattle.al_overload_nodes.specs.Contexts.{target_checked, term_checked}
use Rattle.al_overload_nodes.specs.Ranges.{FoundTree, PairTree, bounds_checked, selector_checked, static_bounds_checked}
use Rattle.al_overload_nodes.specs.Static.{static_term_checked}
use Rattle.al_overload_nodes.specs.Variables.{target_part}
use Rattle.al_overload.specs.Types.{value_type}
use Rattle.al_overload.specs.declared.context.Context.{Context}
use Rattle.al_overload.specs.declared.context.Context.TheVariants as contexts
use Rattle.al_overload_values.specs.TextsAt.{With, bounds_with_at, context_with_at}
use Rattle.al_query.specs.Reads.{Table}
use Rattle.al_tree_syntax.specs.DeclarationTrees.{RangeTree}
use Rattle.al_tree_syntax.specs.ExpressionTrees.{ExpressionTree}
use Rattle.al_overload.specs.Terms.{TermTree}
use Rattle.al_overload_values.specs.TermsAt.{term_at}
use Rattle.al_overload_nodes.specs.Leaves.{mark_type}
use Rattle.al_view_typed.specs.ExpressionTrees.{TypedTree}
use Rattle.al_overload_values.specs.Surroundings.{Surroundings}
use Rattle.al_overload_values.specs.Words.{Worded, found_with_words, with_words}
use Rattle.al_view.specs.declared.types.TypeView.{TypeView}
use Rattle.al_view.specs.declared.view.SubtypeView.{SubtypeView}

-- ---- any context

-- An expression in its context, whose types are among these: E401 and E404 of its names; else E402, E403, E405, E604, those in the prefixes of its
-- attributes among them. An aggregate is allowed if a nominal subtype is given.
abbrev pub checked_at : Table → Surroundings → Context → Option Nominal → List TypeView → ExpressionTree → Result TypedTree Fault
checked_at t s context allowed types x =
    next (context_with_at t s.place s.packages s.predefined s.own x) (λ (w : With TermTree). unless w.1 (term_checked s.predefined s.own context allowed types w.0))

-- an expression that must be static in its context: E304 at its first token, too
abbrev pub static_checked_at : Table → Surroundings → Context → List TypeView → ExpressionTree → Result TypedTree Fault
static_checked_at t s context types x =
    next (context_with_at t s.place s.packages s.predefined s.own x) (λ (w : With TermTree). unless w.1 (static_term_checked s.predefined s.own context types w.1 w.0))

-- an expression with its words
abbrev pub value_at : Table → Surroundings → Context → Option Nominal → List TypeView → ExpressionTree → ℕ → Worded TypedTree
value_at t s context allowed types x word = with_words word (checked_at t s context allowed types x)

-- two bounds as one context
abbrev pub pair_judged_at : Table → Surroundings → Context → List TypeView → RangeTree → Result PairTree Fault
pair_judged_at t s context types r =
    next (bounds_with_at t s.place s.packages s.predefined s.own r)
    (λ (b : With (TermTree × TermTree)). unless b.1 (bounds_checked s.predefined s.own context types b.0.0 b.0.1))

-- a pair of bounds that must be static: E304 at each that isn't, too
abbrev pub static_pair_at : Table → Surroundings → Context → List TypeView → RangeTree → Result PairTree Fault
static_pair_at t s context types r =
    next (bounds_with_at t s.place s.packages s.predefined s.own r)
    (λ (b : With (TermTree × TermTree)). unless b.1 (static_bounds_checked s.predefined s.own context types b.1 b.0.0 b.0.1))

-- ---- the contexts of statements, whose types every unit has

abbrev pub condition_at : Table → Surroundings → ExpressionTree → ℕ → Worded TypedTree
condition_at t s x word = value_at t s contexts.Condition None [] x word

abbrev pub moment_at : Table → Surroundings → ExpressionTree → ℕ → Worded TypedTree
moment_at t s x word = value_at t s contexts.Moment None [] x word

-- what a function with this result returns
abbrev pub result_at : Table → Surroundings → SubtypeView → ExpressionTree → ℕ → Worded TypedTree
result_at t s of x word = value_at t s (contexts.ReturnValue (mark_type of)) None of.types x word

-- ---- assignments

-- what is assigned to
abbrev pub target_at : Table → Surroundings → ExpressionTree → ℕ → Worded TypedTree
target_at t s x word =
    with_words word (next (context_with_at t s.place s.packages s.predefined s.own x) (λ (w : With TermTree). unless w.1 (target_checked s.predefined s.own [] w.0)))

-- what is assigned to a target of this nominal subtype; an aggregate is allowed there
abbrev pub source_checked : Table → Surroundings → ExpressionTree → Nominal → Result TypedTree Fault
source_checked t s x of = checked_at t s (contexts.Source (value_type of.types of.subtype.base)) (Some of) of.types x

abbrev pub source_at : Table → Surroundings → ExpressionTree → ExpressionTree → ℕ → Worded TypedTree
source_at t s target x word = with_words word (next (next (term_at t s.place s.packages target) (target_part s.predefined)) (source_checked t s x))

-- ---- selectors

-- the selector of a case statement, with its type; the same with its words
abbrev pub selector_judged_at : Table → Surroundings → ExpressionTree → Result FoundTree Fault
selector_judged_at t s x =
    next (context_with_at t s.place s.packages s.predefined s.own x) (λ (w : With TermTree). unless w.1 (selector_checked s.predefined s.own w.0))

abbrev pub selector_at : Table → Surroundings → ExpressionTree → ℕ → Worded FoundTree
selector_at t s x word = found_with_words word (selector_judged_at t s x)
