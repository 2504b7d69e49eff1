-- The jumps of names and expressions.
use Rattle.std.proofs.Common.{ℕ, zero, suc, ℤ, pos, Bool, true, false, List, Option, Some, None, refl}
use Rattle.al_view.specs.declared.link.LinkKind.{LinkKind}
use Rattle.al_view.specs.declared.link.LinkKind.TheVariants.{Flag, Data}
use Rattle.al_view.specs.declared.types.Bounds.{Bounds}
use Rattle.al_view.specs.declared.types.StaticValue.{StaticValue}
use Rattle.al_view.specs.declared.view.Mode.{Mode}
use Rattle.al_view.specs.declared.view.Mode.TheVariants as mode
use Rattle.al_view.specs.declared.view.ObjectPlace.{ObjectPlace}
use Rattle.al_view.specs.declared.view.ObjectPlace.TheVariants as places
use Rattle.al_view_typed.specs.declared.expression.Callee.{Callee}
use Rattle.al_view_typed.specs.declared.expression.Callee.TheVariants as callee
use Rattle.al_view_typed.specs.declared.label.BinaryOperator.{BinaryOperator}
use Rattle.al_view_typed.specs.declared.label.BinaryOperator.TheVariants as binary
use Rattle.al_view_typed.specs.declared.label.Conversion.{Conversion}
use Rattle.al_view_typed.specs.declared.label.Conversion.TheVariants as conversions
use Rattle.al_view_typed.specs.declared.label.ShortCircuit.{ShortCircuit}
use Rattle.al_view_typed.specs.declared.label.ShortCircuit.TheVariants as short
use Rattle.al_view_typed.specs.declared.label.UnaryOperator.{UnaryOperator}
use Rattle.al_view_typed.specs.declared.label.UnaryOperator.TheVariants as unary
use Rattle.al_view_typed.specs.ExpressionTrees.{TypedTree, FormTree, NameTree, ValueTree, ValuesTree, ActualTree, ActualsTree, CallTree}
use Rattle.al_view_typed.specs.ExpressionTrees.TypedTree.{Labelled}
use Rattle.al_view_typed.specs.ExpressionTrees.FormTree.{LiteralForm, NamedForm, UnaryForm, BinaryForm, ShortCircuitForm, MembershipForm, ConvertedForm, AggregateForm, OthersForm, CallForm, ClockForm}
use Rattle.al_view_typed.specs.ExpressionTrees.NameTree.{ObjectName, ComponentName, IndexedName}
use Rattle.al_view_typed.specs.ExpressionTrees.ValueTree.{Checked}
use Rattle.al_view_typed.specs.ExpressionTrees.ValuesTree.{NoValue, MoreValues}
use Rattle.al_view_typed.specs.ExpressionTrees.ActualTree.{InActual, VariableActual}
use Rattle.al_view_typed.specs.ExpressionTrees.ActualsTree.{NoActual, MoreActuals}
use Rattle.al_view_typed.specs.ExpressionTrees.CallTree.{Called}
use Rattle.al_instr.specs.declared.numbers.Plain.{Plain as PlainOne}
use Rattle.al_instr.specs.declared.numbers.Plain.TheVariants as plain
use Rattle.al_instr.specs.declared.numbers.Sized.{Sized as SizedOne}
use Rattle.al_instr.specs.declared.numbers.Sized.TheVariants as sized
use Rattle.al_code.specs.declared.piece.Construct.TheVariants as construct
use Rattle.al_code.specs.Pieces.{Piece}
use Rattle.al_code.specs.ExprPieces.{one, of_size, number, slot, store_slot, load_slot, check_code, place_code, join, unless_zero, guarded, times}
use Rattle.al_code.specs.Templates.{kept_code, above_code, below_code, unary_code, binary_code, negation_code, short_code, step_code, words_of, static_or, flag_code, mark_code, routine_code, formal_code, copy_code, copies_code, value_of, form_code, address_of, checked_code, converted_code, components_code, variable_code, variables_code, passed_code, all_passed_code, call_code}
use Rattle.al_code.proofs.Bounds.{Bounded, nothing, whole, using_one, waiting, then, end_of}

-- ---- short codes

pub one_bounded : (p : PlainOne) → Bounded (one p)
one_bounded p = whole refl

pub sized_bounded : (s : SizedOne) (n : ℕ) → Bounded (of_size s n)
sized_bounded s n = whole refl

pub number_bounded : (z : ℤ) → Bounded (number z)
number_bounded z = whole refl

pub slot_bounded : (word : ℕ) → Bounded (slot word)
slot_bounded word = whole refl

pub store_bounded : (word : ℕ) → Bounded (store_slot word)
unfolding store_slot
store_bounded word = then (slot_bounded word) (whole refl)

pub load_bounded : (word : ℕ) → Bounded (load_slot word)
unfolding load_slot
load_bounded word = then (slot_bounded word) (whole refl)

pub check_bounded : (b : Option Bounds) → Bounded (check_code b)
check_bounded None = nothing
check_bounded (Some b) = whole refl

pub place_bounded : (kind : LinkKind) (depth : ℕ) (place : ObjectPlace) → Bounded (place_code kind depth place)
place_bounded kind depth (places.Frame d word) = whole refl
place_bounded kind depth (places.Static symbol word) = using_one refl

pub join_bounded : Bounded join
join_bounded = waiting

unless_zero_bounded : Bounded unless_zero
unless_zero_bounded = waiting

pub guarded_bounded : {p : List Piece} → Bounded p → Bounded (guarded p)
unfolding guarded
guarded_bounded h = end_of construct.Test (then unless_zero_bounded h)

times_bounded : (n : ℕ) {p : List Piece} → Bounded p → Bounded (times n p)
times_bounded zero h = nothing
times_bounded (suc n) h = then (times_bounded n h) h

-- ---- operators

kept_bounded : (word : ℕ) → Bounded (kept_code word)
unfolding kept_code
kept_bounded word = then (store_bounded word) (load_bounded word)

above_bounded : (word : ℕ) → Bounded (above_code word)
unfolding above_code
above_bounded word = then (whole refl) (load_bounded word)

below_bounded : Bounded below_code
unfolding below_code
below_bounded = then (whole refl) (whole refl)

unary_bounded : (o : UnaryOperator) → Bounded (unary_code o)
unary_bounded unary.Plus = nothing
unary_bounded unary.Minus = whole refl
unary_bounded unary.Abs = whole refl
unary_bounded unary.Not = whole refl

binary_bounded : (o : BinaryOperator) (words : ℕ) → Bounded (binary_code o words)
binary_bounded binary.And words = whole refl
binary_bounded binary.Or words = whole refl
binary_bounded binary.Xor words = whole refl
binary_bounded binary.Equal words = whole refl
binary_bounded binary.NotEqual words = whole refl
binary_bounded binary.Less words = whole refl
binary_bounded binary.LessOrEqual words = whole refl
binary_bounded binary.Greater words = whole refl
binary_bounded binary.GreaterOrEqual words = whole refl
binary_bounded binary.Plus words = whole refl
binary_bounded binary.Minus words = whole refl
binary_bounded binary.Times words = whole refl
binary_bounded binary.Divide words = whole refl
binary_bounded binary.Mod words = whole refl
binary_bounded binary.Rem words = whole refl
binary_bounded binary.Power words = whole refl
binary_bounded binary.SameWords words = whole refl
binary_bounded binary.OtherWords words = then (whole refl) (whole refl)

negation_bounded : (b : Bool) → Bounded (negation_code b)
negation_bounded true = whole refl
negation_bounded false = nothing

short_bounded : (o : ShortCircuit) {p : List Piece} → Bounded p → Bounded (short_code o p)
unfolding short_code
short_bounded short.AndThen h = end_of construct.Choice (then (guarded_bounded (then h join_bounded)) (number_bounded (pos 0)))
short_bounded short.OrElse h = end_of construct.Choice (then (guarded_bounded (then (number_bounded (pos 1)) join_bounded)) h)

step_bounded : (c : Conversion) → Bounded (step_code c)
unfolding step_code
step_bounded conversions.Succ = then (number_bounded (pos 1)) (whole refl)
step_bounded conversions.Pred = then (number_bounded (pos 1)) (whole refl)
step_bounded _ = nothing

static_bounded : (v : Option StaticValue) {p : List Piece} → Bounded p → Bounded (static_or v p)
static_bounded (Some v) h = number_bounded v.word
static_bounded None h = h

-- ---- calls

flag_bounded : (depth : ℕ) (flag : Option ObjectPlace) → Bounded (flag_code depth flag)
unfolding flag_code
flag_bounded depth None = nothing
flag_bounded depth (Some place) = then (then (place_bounded Flag depth place) (sized_bounded sized.Load 1)) (one_bounded plain.Access)

mark_bounded : (depth : ℕ) (c : Callee) → Bounded (mark_code depth c)
mark_bounded depth (callee.Subprogram symbol zero) = whole refl
mark_bounded depth (callee.Subprogram symbol (suc d)) = whole refl
mark_bounded depth (callee.Protected symbol) = whole refl
mark_bounded depth (callee.Entry symbol) = whole refl

routine_bounded : (c : Callee) (words : ℕ) → Bounded (routine_code c words)
routine_bounded (callee.Subprogram symbol depth) words = using_one refl
routine_bounded (callee.Protected symbol) words = using_one refl
routine_bounded (callee.Entry symbol) words = using_one refl

formal_bounded : (m : Mode) (b : Option Bounds) → Bounded (formal_code m b)
formal_bounded mode.Out b = nothing
formal_bounded mode.In b = check_bounded b
formal_bounded mode.InOut b = check_bounded b

copy_bounded : (a : ActualTree) → Bounded (copy_code a)
copy_bounded (InActual x) = nothing
copy_bounded (VariableActual name words m formal actual word) = then (then (check_bounded actual) (load_bounded word)) (whole refl)

copies_bounded : (as_ : ActualsTree) → Bounded (copies_code as_)
copies_bounded NoActual = nothing
copies_bounded (MoreActuals a as_) = then (copies_bounded as_) (copy_bounded a)

-- ---- names and expressions

mutual
  pub value_bounded : (depth : ℕ) (x : TypedTree) → Bounded (value_of depth x)
  value_bounded depth (Labelled labels form) = static_bounded labels.value (form_bounded depth labels.words form)

  form_bounded : (depth words : ℕ) (form : FormTree) → Bounded (form_code depth words form)
  form_bounded depth words (LiteralForm value) = number_bounded value.word
  form_bounded depth words (NamedForm name) = then (address_bounded depth name) (whole refl)
  form_bounded depth words (UnaryForm operator x) = then (value_bounded depth x) (unary_bounded operator)
  form_bounded depth words (BinaryForm operator x y) = then (then (value_bounded depth x) (value_bounded depth y)) (binary_bounded operator (words_of x))
  form_bounded depth words (ShortCircuitForm operator x y) = then (value_bounded depth x) (short_bounded operator (value_bounded depth y))
  form_bounded depth words (MembershipForm x is_negated low high word) =
      then (then (then (then (then (then (value_bounded depth x) (kept_bounded word)) (value_bounded depth low)) (above_bounded word)) (value_bounded depth high)) below_bounded) (negation_bounded is_negated)
  form_bounded depth words (ConvertedForm conversion x) = converted_bounded depth conversion x
  form_bounded depth words (AggregateForm values) = components_bounded depth values
  form_bounded depth words (OthersForm count x) = times_bounded count (checked_bounded depth x)
  form_bounded depth words (CallForm call) = call_bounded depth call
  form_bounded depth words ClockForm = whole refl

  pub address_bounded : (depth : ℕ) (name : NameTree) → Bounded (address_of depth name)
  address_bounded depth (ObjectName place is_constant) = place_bounded Data depth place
  address_bounded depth (ComponentName inner offset) = then (address_bounded depth inner) (whole refl)
  address_bounded depth (IndexedName array index bounds words) = then (then (address_bounded depth array) (value_bounded depth index)) (whole refl)

  pub checked_bounded : (depth : ℕ) (x : ValueTree) → Bounded (checked_code depth x)
  checked_bounded depth (Checked x bounds) = then (value_bounded depth x) (check_bounded bounds)

  converted_bounded : (depth : ℕ) (conversion : Conversion) (x : ValueTree) → Bounded (converted_code depth conversion x)
  converted_bounded depth conversion (Checked x bounds) = then (then (value_bounded depth x) (step_bounded conversion)) (check_bounded bounds)

  components_bounded : (depth : ℕ) (values : ValuesTree) → Bounded (components_code depth values)
  components_bounded depth NoValue = nothing
  components_bounded depth (MoreValues value values) = then (checked_bounded depth value) (components_bounded depth values)

  variable_bounded : (depth : ℕ) (a : ActualTree) → Bounded (variable_code depth a)
  variable_bounded depth (InActual x) = nothing
  variable_bounded depth (VariableActual name words m formal actual word) = then (address_bounded depth name) (store_bounded word)

  variables_bounded : (depth : ℕ) (as_ : ActualsTree) → Bounded (variables_code depth as_)
  variables_bounded depth NoActual = nothing
  variables_bounded depth (MoreActuals a as_) = then (variable_bounded depth a) (variables_bounded depth as_)

  passed_bounded : (depth : ℕ) (a : ActualTree) → Bounded (passed_code depth a)
  passed_bounded depth (InActual x) = checked_bounded depth x
  passed_bounded depth (VariableActual name words m formal actual word) = then (then (address_bounded depth name) (whole refl)) (formal_bounded m formal)

  all_passed_bounded : (depth : ℕ) (as_ : ActualsTree) → Bounded (all_passed_code depth as_)
  all_passed_bounded depth NoActual = nothing
  all_passed_bounded depth (MoreActuals a as_) = then (passed_bounded depth a) (all_passed_bounded depth as_)

  pub call_bounded : (depth : ℕ) (c : CallTree) → Bounded (call_code depth c)
  call_bounded depth (Called c flag words actuals) =
      then (then (then (then (then (flag_bounded depth flag) (variables_bounded depth actuals)) (mark_bounded depth c)) (all_passed_bounded depth actuals)) (routine_bounded c words)) (copies_bounded actuals)
