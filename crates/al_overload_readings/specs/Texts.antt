-- The term of an expression's text, by what its names denote (ARM 4.1 to 4.7). What is wrong with any name in the text counts, and the first is reported.
use Rattle.std.specs.Prelude.{ℕ, Bool, true, false, ◌&&◌, ◌||◌, List, [], ◌∷◌, ◌++◌, Option, Some, None, is_some, Result, Ok, Err, nat_lt, pos, if◌then◌else◌}
use Rattle.al_base.specs.declared.place.Place.{Place}
use Rattle.al_tree_grammar.specs.Grammar.{Label}
use Rattle.al_base_fault.specs.Judging.{both, next, map_ok, unless}
use Rattle.al_base_fault.specs.declared.fault.Fault.{Fault}
use Rattle.al_overload_lookup.specs.Keys.{Denotations}
use Rattle.al_overload_lookup.specs.Places.{place_of}
use Rattle.al_overload_lookup.specs.Places as texts
use Rattle.al_tree_syntax.specs.ExpressionTrees.{ExpressionTree, ExpressionTree as e, ExpressionsTree, ExpressionsTree as es, GroupTree, GroupTree as g, PartTree, PartTree as part, Operator, Prefix}
use Rattle.al_overload.specs.Terms.{TermTree, TermTree as terms}
use Rattle.al_overload_readings.specs.Readings.{ReadTree, ReadTree as reads, marking, named, ranging, valued, wrong_kind}
use Rattle.al_overload_readings.specs.Steps.{added, aggregated, grouped, joined_read, member_read, prefixed_read, range_member_read, repeated, started}
use Rattle.al_overload_readings.specs.Noted.{NotedTree, attributed, plain, qualifying, ranged, settled, with_argument, with_arguments, with_selector}
use Rattle.al_view.specs.declared.types.StaticValue.{StaticValue}
use Rattle.al_view.specs.declared.view.SubtypeView.{SubtypeView}

-- the value of a numeric literal; the lexemes of a text have none above 2 ** 63 - 1
abbrev pub number_in : List ℕ → ℕ
number_in [] = 0
number_in (n ∷ ns) = if nat_lt n 9223372036854775807 then n else 9223372036854775807

unfoldable pub number_value : Label → StaticValue
number_value l = record { word = pos (number_in l.text) }

-- ---- one value where a range is wanted

abbrev pub is_selector : PartTree → Bool
is_selector (part.Selector l) = true
is_selector (part.Arguments l first others) = false
is_selector (part.Attribute l) = false
is_selector part.RangeAttribute = false
is_selector (part.Operand group) = false

abbrev pub is_range_attribute : PartTree → Bool
is_range_attribute part.RangeAttribute = true
is_range_attribute (part.Selector l) = false
is_range_attribute (part.Arguments l first others) = false
is_range_attribute (part.Attribute l) = false
is_range_attribute (part.Operand group) = false

-- written as a name
abbrev pub is_name : ExpressionTree → Bool
is_name (e.Name l) = true
is_name (e.Longer prefix p) = is_selector p && is_name prefix
is_name (e.Number l) = false
is_name (e.Text l) = false
is_name (e.Prefixed operator operand) = false
is_name (e.Infix left operator right) = false
is_name (e.InMark left n mark) = false
is_name (e.InRange left n low high) = false
is_name (e.Group group) = false

-- written as a name or a Range attribute
abbrev pub is_range : ExpressionTree → Bool
is_range (e.Name l) = true
is_range (e.Longer prefix p) = is_range_attribute p || (is_selector p && is_name prefix)
is_range (e.Number l) = false
is_range (e.Text l) = false
is_range (e.Prefixed operator operand) = false
is_range (e.Infix left operator right) = false
is_range (e.InMark left n mark) = false
is_range (e.InRange left n low high) = false
is_range (e.Group group) = false

-- E404 at the first token of what is written as neither
unfoldable pub unless_range : ExpressionTree → Option Fault
unless_range x = if is_range x then None else Some (wrong_kind (texts.first_place x))

unfoldable pub one_range : ExpressionTree → Result ReadTree Fault → Result SubtypeView Fault
one_range x r = unless (unless_range x) (next r ranging)

-- ---- whole texts

unfoldable mutual
  -- what an expression may be, with the first fault in the arguments of a name
  pub noted : Denotations → ExpressionTree → NotedTree
  noted d (e.Number l) = plain (Ok (reads.TermRead (terms.NumberTerm (place_of l) (number_value l))))
  noted d (e.Text l) = plain (Ok (reads.TermRead (terms.TextTerm (place_of l) l.text)))
  noted d (e.Name l) = plain (named (place_of l) l.text (d.visible l.text) l)
  noted d (e.Longer prefix p) = with_part d p (noted d prefix)
  noted d (e.Prefixed operator operand) = plain (prefixed_read d operator (next (settled (noted d operand)) valued))
  noted d (e.Infix left operator right) = plain (joined_read d operator (next (settled (noted d left)) valued) (next (settled (noted d right)) valued))
  noted d (e.InMark left n mark) = plain (member_read (is_some n) (next (settled (noted d left)) valued) (one_range mark (settled (noted d mark))))
  noted d (e.InRange left n low high) =
      plain (range_member_read (is_some n) (next (settled (noted d left)) valued) (both (next (settled (noted d low)) valued) (next (settled (noted d high)) valued)))
  noted d (e.Group group) = plain (map_ok reads.TermRead (group_term d group))

  -- with a part after it
  pub with_part : Denotations → PartTree → NotedTree → NotedTree
  with_part d (part.Selector l) name = with_selector d l name
  with_part d (part.Arguments l first es.NoExpression) name = with_argument (place_of l) (next (settled (noted d first)) valued) name
  with_part d (part.Arguments l first (es.MoreExpressions second others)) name =
      with_arguments (place_of l) (read_more d (started (next (settled (noted d first)) valued)) (es.MoreExpressions second others)) name
  with_part d (part.Attribute l) name = attributed l name
  with_part d part.RangeAttribute name = ranged name
  with_part d (part.Operand group) name = qualifying (texts.group_place group) (group_term d group) name

  -- what is in parentheses
  pub group_term : Denotations → GroupTree → Result TermTree Fault
  group_term d (g.Positional l first es.NoExpression) = grouped (place_of l) (next (settled (noted d first)) valued)
  group_term d (g.Positional l first (es.MoreExpressions second others)) =
      aggregated (place_of l) (read_more d (started (next (settled (noted d first)) valued)) (es.MoreExpressions second others))
  group_term d (g.OthersAggregate l value) = repeated (place_of l) (next (settled (noted d value)) valued)

  -- several terms after others
  pub read_more : Denotations → Result (List TermTree) Fault → ExpressionsTree → Result (List TermTree) Fault
  read_more d done es.NoExpression = done
  read_more d done (es.MoreExpressions x xs) = read_more d (added done (next (settled (noted d x)) valued)) xs

-- what an expression may be, or the first fault of its names
abbrev pub read : Denotations → ExpressionTree → Result ReadTree Fault
read d x = settled (noted d x)

-- the term of a whole text; E401 or E404 at the first of its names that isn't visible or isn't what is wanted
abbrev pub term_of : Denotations → ExpressionTree → Result TermTree Fault
term_of d x = next (read d x) valued

-- the subtype that a mark names
unfoldable pub mark_of_text : Denotations → ExpressionTree → Result SubtypeView Fault
mark_of_text d x = map_ok (λ (m : Place × SubtypeView). m.1) (next (read d x) marking)
