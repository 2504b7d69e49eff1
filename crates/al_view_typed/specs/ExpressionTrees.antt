-- Expressions with their labels, as plain data.
use Rattle.std.specs.Prelude.{ℕ, Bool, Option}
use Rattle.al_view.specs.declared.types.Bounds.{Bounds}
use Rattle.al_view.specs.declared.types.StaticValue.{StaticValue}
use Rattle.al_view.specs.declared.view.Mode.{Mode}
use Rattle.al_view.specs.declared.view.ObjectPlace.{ObjectPlace}
use Rattle.al_view_typed.specs.declared.expression.Callee.{Callee}
use Rattle.al_view_typed.specs.declared.label.BinaryOperator.{BinaryOperator}
use Rattle.al_view_typed.specs.declared.label.Conversion.{Conversion}
use Rattle.al_view_typed.specs.declared.label.Labels.{Labels}
use Rattle.al_view_typed.specs.declared.label.ShortCircuit.{ShortCircuit}
use Rattle.al_view_typed.specs.declared.label.UnaryOperator.{UnaryOperator}

mutual
  -- an expression
  pub data TypedTree : Type 0 where
    Labelled : Labels → FormTree → TypedTree

  -- what it is
  pub data FormTree : Type 0 where
    LiteralForm : StaticValue → FormTree
    NamedForm : NameTree → FormTree
    UnaryForm : UnaryOperator → TypedTree → FormTree
    BinaryForm : BinaryOperator → TypedTree → TypedTree → FormTree
    ShortCircuitForm : ShortCircuit → TypedTree → TypedTree → FormTree
    -- the value, whether it has a 'not', the bounds, the word of the frame that keeps the value
    MembershipForm : TypedTree → Bool → TypedTree → TypedTree → ℕ → FormTree
    ConvertedForm : Conversion → ValueTree → FormTree
    AggregateForm : ValuesTree → FormTree
    -- how many components
    OthersForm : ℕ → ValueTree → FormTree
    CallForm : CallTree → FormTree
    ClockForm : FormTree

  -- what has an address
  pub data NameTree : Type 0 where
    -- the place of the object, and whether it is a constant
    ObjectName : ObjectPlace → Bool → NameTree
    -- a component, from this word of the record on
    ComponentName : NameTree → ℕ → NameTree
    -- the array, the index with its bounds, the words of a component
    IndexedName : NameTree → TypedTree → Bounds → ℕ → NameTree

  -- a value with the range that it is checked against
  pub data ValueTree : Type 0 where
    Checked : TypedTree → Option Bounds → ValueTree

  pub data ValuesTree : Type 0 where
    NoValue : ValuesTree
    MoreValues : ValueTree → ValuesTree → ValuesTree

  pub data ActualTree : Type 0 where
    InActual : ValueTree → ActualTree
    -- the variable, its words, the mode, the ranges of the formal and of the variable, the word that keeps the address
    VariableActual : NameTree → ℕ → Mode → Option Bounds → Option Bounds → ℕ → ActualTree

  pub data ActualsTree : Type 0 where
    NoActual : ActualsTree
    MoreActuals : ActualTree → ActualsTree → ActualsTree

  -- what is called, the flag that says whether it is elaborated, the words of the actuals, and the actuals in the order of the
  -- formals
  pub data CallTree : Type 0 where
    Called : Callee → Option ObjectPlace → ℕ → ActualsTree → CallTree
