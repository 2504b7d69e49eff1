-- Loops and blocks (ARM 5.5, 5.6).
use Rattle.std.specs.Prelude.{ℕ, Bool, List, Option, Some, None, Result, Ok}
use Rattle.al_base.specs.declared.place.Place.{Place}
use Rattle.al_view.specs.declared.symbol.Symbol.{Symbol}
use Rattle.al_view.specs.declared.types.Bounds.{Bounds}
use Rattle.al_view.specs.declared.types.StaticValue.{StaticValue}
use Rattle.al_base_fault.specs.Judging.{next, unless}
use Rattle.al_base_fault.specs.declared.fault.Fault.{Fault}
use Rattle.al_view_typed.specs.DeclarationTrees.{DeclarationTree}
use Rattle.al_view_typed.specs.ExpressionTrees.{TypedTree}
use Rattle.al_view_typed.specs.ExpressionTrees.{FormTree as forms}
use Rattle.al_view_typed.specs.ExpressionTrees.TypedTree.{Labelled}
use Rattle.al_view_typed.specs.ExpressionViews.{typed_model}
use Rattle.al_view_typed.specs.StatementTrees.{SchemeTree, StatementTree}
use Rattle.al_view_typed.specs.StatementTrees.{SchemeTree as schemes, StatementFormTree as statements, StatementTree as numbered}
use Rattle.al_view_typed.specs.StatementViews.{statements_of}
use Rattle.al_view_typed.specs.declared.label.ExpressionType.TheVariants.{Declared}
use Rattle.al_stmts.specs.Checking.{Checked, compound}
use Rattle.al_stmts.specs.declared.loops.LoopRange.{LoopRange}
use Rattle.al_stmts.specs.declared.loops.LoopWords.{LoopWords}

-- the values of a loop's parameter: both bounds, and the range of the mark that comes before `range`
pub record RangeTree : Type 0 where
  pub low : TypedTree
  pub high : TypedTree
  pub mark : Option Bounds

abbrev pub range_model : LoopRange → RangeTree
range_model r = record { low = typed_model r.low; high = typed_model r.high; mark = r.mark }

-- a static bound of a mark, which is there, as an expression
abbrev pub bound_of : Place → Symbol → StaticValue → TypedTree
bound_of place type_symbol value =
    Labelled (record { place = place; of = Declared type_symbol; bounds = None; words = 1; value = Some value }) (forms.LiteralForm value)

-- the range of a mark that is alone
abbrev pub range_of_mark : Place → Symbol → Bounds → RangeTree
range_of_mark place type_symbol bounds = record {
  low = bound_of place type_symbol (record { word = bounds.low });
  high = bound_of place type_symbol (record { word = bounds.high });
  mark = None;
}

abbrev pub value_in : TypedTree → Option StaticValue
value_in (Labelled labels form) = labels.value

-- the range of the parameter's subtype, which is static if both bounds are (ARM 4.9(26))
abbrev pub static_range : Option StaticValue → Option StaticValue → Option Bounds
static_range (Some low) (Some high) = Some (record { low = low.word; high = high.word })
static_range (Some low) None = None
static_range None high = None

abbrev pub parameter_bounds : RangeTree → Option Bounds
parameter_bounds r = static_range (value_in r.low) (value_in r.high)

-- for parameter in [reverse] range
abbrev pub for_scheme : Bool → RangeTree → LoopWords → SchemeTree
for_scheme is_reverse r words = schemes.ForScheme is_reverse r.low r.high r.mark words.parameter words.last

-- while condition
abbrev pub while_scheme : Result TypedTree Fault → Result SchemeTree Fault
while_scheme condition = next condition (λ c. Ok (schemes.WhileScheme c))

abbrev pub looped_over : ℕ → Result SchemeTree Fault → List StatementTree → Result StatementTree Fault
looped_over line scheme ss = next scheme (λ s. Ok (numbered.Numbered line (statements.LoopStatement s (statements_of ss))))

-- a loop, with the fault of the name at its end
abbrev pub looped : ℕ → Result SchemeTree Fault → Option Fault → Checked → Checked
looped line scheme end inner = compound (unless end (looped_over line scheme inner.statements)) inner.faults

-- a block, with the fault of the name at its end; what is wrong with its declarations comes before its statements
abbrev pub blocked : ℕ → List DeclarationTree → Option Fault → Checked → Checked
blocked line declarations end inner =
    compound (unless end (Ok (numbered.Numbered line (statements.BlockStatement declarations (statements_of inner.statements))))) inner.faults
