-- The code of names and expressions (ARM 4, 6.4).
use Rattle.std.specs.Prelude.{ℕ, zero, suc, pos, ◌-◌, Bool, true, false, List, [], ◌∷◌, ◌++◌, Option, Some, None}
use Rattle.al_view.specs.ViewUses.{link}
use Rattle.al_view.specs.declared.link.LinkKind.TheVariants.{Code, Gate, Flag, Data}
use Rattle.al_view.specs.declared.types.Bounds.{Bounds}
use Rattle.al_view.specs.declared.types.StaticValue.{StaticValue}
use Rattle.al_view.specs.declared.view.Mode.{Mode}
use Rattle.al_view.specs.declared.view.Mode.TheVariants as mode
use Rattle.al_view.specs.declared.view.ObjectPlace.{ObjectPlace}
use Rattle.al_view_typed.specs.declared.expression.Callee.{Callee}
use Rattle.al_view_typed.specs.declared.expression.Callee.TheVariants as callee
use Rattle.al_view_typed.specs.declared.label.BinaryOperator.{BinaryOperator}
use Rattle.al_view_typed.specs.declared.label.BinaryOperator.TheVariants as binary
use Rattle.al_view_typed.specs.declared.label.Conversion.{Conversion}
use Rattle.al_view_typed.specs.declared.label.Conversion.TheVariants as conversions
use Rattle.al_view_typed.specs.declared.label.UnaryOperator.{UnaryOperator}
use Rattle.al_view_typed.specs.declared.label.UnaryOperator.TheVariants as unary
use Rattle.al_view_typed.specs.declared.label.ShortCircuit.{ShortCircuit}
use Rattle.al_view_typed.specs.declared.label.ShortCircuit.TheVariants as short
use Rattle.al_view_typed.specs.ExpressionTrees.{TypedTree, FormTree, NameTree, ValueTree, ValuesTree, ActualTree, ActualsTree, CallTree}
use Rattle.al_view_typed.specs.ExpressionTrees.TypedTree.{Labelled}
use Rattle.al_view_typed.specs.ExpressionTrees.FormTree.{LiteralForm, NamedForm, UnaryForm, BinaryForm, ShortCircuitForm, MembershipForm, ConvertedForm, AggregateForm, OthersForm, CallForm, ClockForm}
use Rattle.al_view_typed.specs.ExpressionTrees.NameTree.{ObjectName, ComponentName, IndexedName}
use Rattle.al_view_typed.specs.ExpressionTrees.ValueTree.{Checked}
use Rattle.al_view_typed.specs.ExpressionTrees.ValuesTree.{NoValue, MoreValues}
use Rattle.al_view_typed.specs.ExpressionTrees.ActualTree.{InActual, VariableActual}
use Rattle.al_view_typed.specs.ExpressionTrees.ActualsTree.{NoActual, MoreActuals}
use Rattle.al_view_typed.specs.ExpressionTrees.CallTree.{Called}
use Rattle.al_instr.specs.declared.numbers.Plain.TheVariants as plain
use Rattle.al_instr.specs.declared.numbers.Sized.TheVariants as sized
use Rattle.al_instr.specs.declared.instruction.Instr.TheVariants as instr
use Rattle.al_code.specs.declared.piece.Construct.TheVariants as construct
use Rattle.al_code.specs.Pieces.{Piece, closed}
use Rattle.al_code.specs.Pieces.Piece.{Whole, Using}
use Rattle.al_code.specs.ExprPieces.{one, of_size, number, store_slot, load_slot, check_code, place_code, join, guarded, times}

-- the word on top is kept in the frame, and compared with the bounds that follow
unfoldable pub kept_code : ℕ → List Piece
kept_code word = store_slot word ++ load_slot word

unfoldable pub above_code : ℕ → List Piece
above_code word = one plain.AtLeast ++ load_slot word

unfoldable pub below_code : List Piece
below_code = one plain.AtMost ++ one plain.And

-- the address of a component, of so many words
abbrev pub index_code : Bounds → ℕ → List Piece
index_code bounds words = Whole (instr.Index bounds.low bounds.high words) ∷ []

abbrev pub unary_code : UnaryOperator → List Piece
unary_code unary.Plus = []
unary_code unary.Minus = one plain.Negate
unary_code unary.Abs = one plain.Absolute
unary_code unary.Not = one plain.Not

-- an operator on operands of so many words
abbrev pub binary_code : BinaryOperator → ℕ → List Piece
binary_code binary.And words = one plain.And
binary_code binary.Or words = one plain.Or
binary_code binary.Xor words = one plain.Xor
binary_code binary.Equal words = one plain.Equal
binary_code binary.NotEqual words = one plain.NotEqual
binary_code binary.Less words = one plain.Less
binary_code binary.LessOrEqual words = one plain.AtMost
binary_code binary.Greater words = one plain.Greater
binary_code binary.GreaterOrEqual words = one plain.AtLeast
binary_code binary.Plus words = one plain.Add
binary_code binary.Minus words = one plain.Subtract
binary_code binary.Times words = one plain.Multiply
binary_code binary.Divide words = one plain.Divide
binary_code binary.Mod words = one plain.Modulo
binary_code binary.Rem words = one plain.Remainder
binary_code binary.Power words = one plain.Power
binary_code binary.SameWords words = of_size sized.Same words
binary_code binary.OtherWords words = of_size sized.Same words ++ one plain.Not

abbrev pub negation_code : Bool → List Piece
negation_code true = one plain.Not
negation_code false = []

-- `and then`, `or else`, after the left value: if that decides, the right one isn't computed (ARM 4.5.1(7))
unfoldable pub short_code : ShortCircuit → List Piece → List Piece
short_code short.AndThen right = closed construct.Choice (guarded (right ++ join) ++ number (pos 0))
short_code short.OrElse right = closed construct.Choice (guarded (number (pos 1) ++ join) ++ right)

-- the value after or before the operand's (ARM 3.5(22, 25))
unfoldable pub step_code : Conversion → List Piece
step_code conversions.Succ = number (pos 1) ++ one plain.Add
step_code conversions.Pred = number (pos 1) ++ one plain.Subtract
step_code _ = []

abbrev pub words_of : TypedTree → ℕ
words_of (Labelled labels form) = labels.words

-- the code of an expression whose static value is labelled is that value (ARM 4.9)
abbrev pub static_or : Option StaticValue → List Piece → List Piece
static_or (Some v) code = number v.word
static_or None code = code

-- the check that a body is elaborated (ARM 3.11(10))
unfoldable pub flag_code : ℕ → Option ObjectPlace → List Piece
flag_code depth None = []
flag_code depth (Some place) = place_code Flag depth place ++ of_size sized.Load 1 ++ one plain.Access

-- the first words of a frame, for what a body declares and for what is at library level
abbrev pub mark_code : ℕ → Callee → List Piece
mark_code depth (callee.Subprogram symbol zero) = one plain.Root
mark_code depth (callee.Subprogram symbol (suc d)) = of_size sized.Mark (depth - suc d)
mark_code depth (callee.Protected symbol) = one plain.Root
mark_code depth (callee.Entry symbol) = one plain.Root

-- the call itself, with actuals of so many words; for an entry its gate is called (ARM 9.5.3)
abbrev pub routine_code : Callee → ℕ → List Piece
routine_code (callee.Subprogram symbol depth) words = Using (instr.Call 0 words) (link Code symbol) ∷ []
routine_code (callee.Protected symbol) words = Using (instr.Call 0 words) (link Code symbol) ∷ []
routine_code (callee.Entry symbol) words = Using (instr.Call 0 words) (link Gate symbol) ∷ []

-- the check of a value that is passed to a formal of this mode
abbrev pub formal_code : Mode → Option Bounds → List Piece
formal_code mode.Out bounds = []
formal_code _ bounds = check_code bounds

-- the copy back to one actual (ARM 6.4.1(17))
abbrev pub copy_code : ActualTree → List Piece
copy_code (InActual x) = []
copy_code (VariableActual name words m formal actual word) = check_code actual ++ load_slot word ++ of_size sized.Store words

-- the copies back, from the last one to the first
abbrev pub copies_code : ActualsTree → List Piece
copies_code NoActual = []
copies_code (MoreActuals a as_) = copies_code as_ ++ copy_code a

abbrev mutual
  -- the value of an expression, in a body of nesting depth `depth`
  pub value_of : ℕ → TypedTree → List Piece
  value_of depth (Labelled labels form) = static_or labels.value (form_code depth labels.words form)

  pub form_code : ℕ → ℕ → FormTree → List Piece
  form_code depth words (LiteralForm value) = number value.word
  form_code depth words (NamedForm name) = address_of depth name ++ of_size sized.Load words
  form_code depth words (UnaryForm operator x) = value_of depth x ++ unary_code operator
  form_code depth words (BinaryForm operator x y) = value_of depth x ++ value_of depth y ++ binary_code operator (words_of x)
  form_code depth words (ShortCircuitForm operator x y) = value_of depth x ++ short_code operator (value_of depth y)
  form_code depth words (MembershipForm x is_negated low high word) =
      value_of depth x ++ kept_code word ++ value_of depth low ++ above_code word ++ value_of depth high ++ below_code
      ++ negation_code is_negated
  form_code depth words (ConvertedForm conversion x) = converted_code depth conversion x
  form_code depth words (AggregateForm values) = components_code depth values
  form_code depth words (OthersForm count x) = times count (checked_code depth x)
  form_code depth words (CallForm call) = call_code depth call
  form_code depth words ClockForm = one plain.Now

  -- the address of an object or of a part of one
  pub address_of : ℕ → NameTree → List Piece
  address_of depth (ObjectName place is_constant) = place_code Data depth place
  address_of depth (ComponentName whole offset) = address_of depth whole ++ of_size sized.Field offset
  address_of depth (IndexedName array index bounds words) =
      address_of depth array ++ value_of depth index ++ index_code bounds words

  -- a value with its check
  pub checked_code : ℕ → ValueTree → List Piece
  checked_code depth (Checked x bounds) = value_of depth x ++ check_code bounds

  pub converted_code : ℕ → Conversion → ValueTree → List Piece
  converted_code depth conversion (Checked x bounds) = value_of depth x ++ step_code conversion ++ check_code bounds

  pub components_code : ℕ → ValuesTree → List Piece
  components_code depth NoValue = []
  components_code depth (MoreValues value values) = checked_code depth value ++ components_code depth values

  -- the address of a variable, which the frame keeps
  pub variable_code : ℕ → ActualTree → List Piece
  variable_code depth (InActual x) = []
  variable_code depth (VariableActual name words m formal actual word) = address_of depth name ++ store_slot word

  pub variables_code : ℕ → ActualsTree → List Piece
  variables_code depth NoActual = []
  variables_code depth (MoreActuals a as_) = variable_code depth a ++ variables_code depth as_

  -- the actuals that are passed
  pub passed_code : ℕ → ActualTree → List Piece
  passed_code depth (InActual x) = checked_code depth x
  passed_code depth (VariableActual name words m formal actual word) = address_of depth name ++ of_size sized.Load words ++ formal_code m formal

  pub all_passed_code : ℕ → ActualsTree → List Piece
  all_passed_code depth NoActual = []
  all_passed_code depth (MoreActuals a as_) = passed_code depth a ++ all_passed_code depth as_

  -- a call (ARM 6.4): the flag, the addresses of what is copied back, the frame with the actuals, the call, the copying back
  pub call_code : ℕ → CallTree → List Piece
  call_code depth (Called c flag words actuals) =
      flag_code depth flag ++ variables_code depth actuals ++ mark_code depth c ++ all_passed_code depth actuals
      ++ routine_code c words ++ copies_code actuals
