-- What is wrong in the prefix of an attribute (ARM 4.1.4). Only its array matters to the attribute, which is known without interpretation; but
-- what is in its indexes is part of the context round the attribute (ARM 8.6(4)), and must have its one interpretation there as all else has.
use Rattle.std.specs.Prelude.{Bool, true, false, ◌&&◌, ◌||◌, ◌==◌, [], Option, Some, None, is_some, Result, Ok, Err, if◌then◌else◌}
use Rattle.al_base.specs.declared.place.Place.{Place}
use Rattle.al_overload.specs.declared.everywhere.Predefined.{Predefined}
use Rattle.al_base_fault.specs.Faults.{fault_at}
use Rattle.al_base_fault.specs.declared.fault.Fault.{Fault}
use Rattle.al_overload_nodes.specs.Contexts.{term_read}
use Rattle.al_overload.specs.declared.context.Context.TheVariants as contexts
use Rattle.al_overload_readings.specs.Marks.{mark_in}
use Rattle.al_overload_readings.specs.Readings.{ReadTree, ReadTree as reads}
use Rattle.al_overload.specs.Places.{first_place}
use Rattle.al_overload.specs.Terms.{TermTree}
use Rattle.al_overload_readings.specs.Texts.{is_selector}
use Rattle.al_tree_syntax.specs.ExpressionTrees.{ExpressionTree, ExpressionTree as e, PartTree, PartTree as part}
use Rattle.al_view_typed.specs.ExpressionTrees.{TypedTree}
use Rattle.al_view.specs.declared.symbol.Symbol.{Symbol}

abbrev pub is_at : Place → Place → Bool
is_at p q = (p.line == q.line) && (p.col == q.col)

-- That the prefix as a whole has no interpretation, or several, is reported for the context round it, which begins elsewhere; contexts inside it
-- begin after its first token.
unfoldable pub moved : Place → Place → Fault → Fault
moved at first f = if is_at f.place first then fault_at at f.rule else f

abbrev pub moved_of : Place → Place → Result TypedTree Fault → Option Fault
moved_of at first (Ok x) = None
moved_of at first (Err f) = Some (moved at first f)

-- An object or a part of one, as a value of any type. It isn't evaluated, so nothing in it fails: only what is wrong with its tree is reported, not what
-- is known of its value.
abbrev pub part_fault : Predefined → Option Symbol → Place → TermTree → Option Fault
part_fault p own at t = moved_of at (first_place t) (term_read p own contexts.Target None [] t).tree

-- a prefix, in a context that begins there
abbrev pub reading_fault : Predefined → Option Symbol → Place → ReadTree → Option Fault
reading_fault p own at (reads.TermRead t) = part_fault p own at t
reading_fault p own at (reads.NameRead q key vs) = None
reading_fault p own at (reads.FunctionRead q c s) = None
reading_fault p own at (reads.ImageRead q s) = None
reading_fault p own at (reads.RangeRead q s) = None

abbrev pub prefix_fault : Predefined → Option Symbol → Place → Result ReadTree Fault → Option Fault
prefix_fault p own at (Ok r) = reading_fault p own at r
prefix_fault p own at (Err f) = None

-- where the context of an argument begins: that of a conversion's operand and of Image's argument at its first token, all others with the context round them
abbrev pub argument_place : Place → Place → ReadTree → Place
argument_place at first (reads.NameRead q key vs) = if is_some (mark_in vs) then first else at
argument_place at first (reads.ImageRead q s) = first
argument_place at first (reads.TermRead t) = at
argument_place at first (reads.FunctionRead q c s) = at
argument_place at first (reads.RangeRead q s) = at

abbrev pub place_after : Place → Place → Result ReadTree Fault → Place
place_after at first (Ok r) = argument_place at first r
place_after at first (Err f) = at

abbrev pub is_attribute : PartTree → Bool
is_attribute (part.Attribute l) = true
is_attribute (part.Selector l) = false
is_attribute (part.Arguments l first others) = false
is_attribute part.RangeAttribute = false
is_attribute (part.Operand group) = false

-- Whether an argument after it may be one of a conversion or of Image: what has an argument of its own, or selectors after one, is neither a mark nor
-- an attribute of one.
abbrev pub may_be_mark : ExpressionTree → Bool
may_be_mark (e.Name l) = true
may_be_mark (e.Longer prefix p) = is_attribute p || (is_selector p && may_be_mark prefix)
may_be_mark (e.Number l) = false
may_be_mark (e.Text l) = false
may_be_mark (e.Prefixed operator operand) = false
may_be_mark (e.Infix left operator right) = false
may_be_mark (e.InMark left n mark) = false
may_be_mark (e.InRange left n low high) = false
may_be_mark (e.Group group) = false
