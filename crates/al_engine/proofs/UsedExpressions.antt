-- What the code of names and expressions uses.
use Rattle.std.proofs.Common.{ℕ, zero, suc, Bool, true, false, List, ◌++◌, Option, Some, None, refl}
use Rattle.al_view.specs.ViewUses.{flag_uses, place_uses}
use Rattle.al_view.specs.declared.link.LinkKind.{LinkKind}
use Rattle.al_view.specs.declared.link.LinkKind.TheVariants.{Flag, Data}
use Rattle.al_view.specs.declared.link.LinkSymbol.{LinkSymbol}
use Rattle.al_view.specs.declared.types.Bounds.{Bounds}
use Rattle.al_view.specs.declared.types.StaticValue.{StaticValue}
use Rattle.al_view.specs.declared.view.Mode.{Mode}
use Rattle.al_view.specs.declared.view.Mode.TheVariants as mode
use Rattle.al_view.specs.declared.view.ObjectPlace.{ObjectPlace}
use Rattle.al_view.specs.declared.view.ObjectPlace.TheVariants as places
use Rattle.al_view_typed.specs.Uses.{actual_uses, actuals_uses, called_uses, callee_uses, form_uses, name_uses, typed_uses, value_uses, values_uses}
use Rattle.al_view_typed.specs.declared.expression.Callee.{Callee}
use Rattle.al_view_typed.specs.declared.expression.Callee.TheVariants as callee
use Rattle.al_view_typed.specs.declared.label.BinaryOperator.{BinaryOperator}
use Rattle.al_view_typed.specs.declared.label.BinaryOperator.TheVariants as binary
use Rattle.al_view_typed.specs.declared.label.Conversion.{Conversion}
use Rattle.al_view_typed.specs.declared.label.Conversion.TheVariants as conversions
use Rattle.al_view_typed.specs.declared.label.ShortCircuit.{ShortCircuit}
use Rattle.al_view_typed.specs.declared.label.ShortCircuit.TheVariants as short
use Rattle.al_view_typed.specs.declared.label.UnaryOperator.{UnaryOperator}
use Rattle.al_view_typed.specs.declared.label.UnaryOperator.TheVariants as unary
use Rattle.al_view_typed.specs.ExpressionTrees.{TypedTree, FormTree, NameTree, ValueTree, ValuesTree, ActualTree, ActualsTree, CallTree}
use Rattle.al_view_typed.specs.ExpressionTrees.TypedTree.{Labelled}
use Rattle.al_view_typed.specs.ExpressionTrees.FormTree.{LiteralForm, NamedForm, UnaryForm, BinaryForm, ShortCircuitForm, MembershipForm, ConvertedForm, AggregateForm, OthersForm, CallForm, ClockForm}
use Rattle.al_view_typed.specs.ExpressionTrees.NameTree.{ObjectName, ComponentName, IndexedName}
use Rattle.al_view_typed.specs.ExpressionTrees.ValueTree.{Checked}
use Rattle.al_view_typed.specs.ExpressionTrees.ValuesTree.{NoValue, MoreValues}
use Rattle.al_view_typed.specs.ExpressionTrees.ActualTree.{InActual, VariableActual}
use Rattle.al_view_typed.specs.ExpressionTrees.ActualsTree.{NoActual, MoreActuals}
use Rattle.al_view_typed.specs.ExpressionTrees.CallTree.{Called}
use Rattle.al_code.specs.declared.piece.Construct.TheVariants as construct
use Rattle.al_code.specs.Pieces.{Piece}
use Rattle.al_code.specs.ExprPieces.{store_slot, load_slot, check_code, place_code, unless_zero, guarded, times}
use Rattle.al_code.specs.Templates.{kept_code, above_code, below_code, unary_code, binary_code, negation_code, short_code, step_code, words_of, static_or, flag_code, mark_code, routine_code, formal_code, copy_code, copies_code, value_of, form_code, address_of, checked_code, converted_code, components_code, variable_code, variables_code, passed_code, all_passed_code, call_code}
use Rattle.al_engine.proofs.Used.{Uses, end_of, left, nothing, quiet, right, then, using_first, waiting, whole}

-- ---- short codes

pub store_quiet : (word : ℕ) {xs : List LinkSymbol} → Uses (store_slot word) xs
unfolding store_slot
store_quiet word = quiet refl

pub load_quiet : (word : ℕ) {xs : List LinkSymbol} → Uses (load_slot word) xs
unfolding load_slot
load_quiet word = quiet refl

pub check_quiet : (b : Option Bounds) {xs : List LinkSymbol} → Uses (check_code b) xs
check_quiet None = nothing
check_quiet (Some b) = quiet refl

pub place_used : (kind : LinkKind) (depth : ℕ) (place : ObjectPlace) → Uses (place_code kind depth place) (place_uses kind place)
place_used kind depth (places.Frame d word) = quiet refl
place_used kind depth (places.Static symbol word) = using_first

pub guarded_used : {p : List Piece} {xs : List LinkSymbol} → Uses p xs → Uses (guarded p) xs
unfolding guarded
guarded_used {p = p} {xs = xs} h = end_of construct.Test {p = unless_zero ++ p} {xs = xs} (then {p = unless_zero} {q = p} {xs = xs} (quiet refl) h)

times_used : (n : ℕ) {p : List Piece} {xs : List LinkSymbol} → Uses p xs → Uses (times n p) xs
times_used zero h = nothing
times_used (suc n) {p = p} {xs = xs} h = then {p = times n p} {q = p} {xs = xs} (times_used n h) h

-- ---- operators

kept_quiet : (word : ℕ) {xs : List LinkSymbol} → Uses (kept_code word) xs
unfolding kept_code store_slot load_slot
kept_quiet word = quiet refl

above_quiet : (word : ℕ) {xs : List LinkSymbol} → Uses (above_code word) xs
unfolding above_code load_slot
above_quiet word = quiet refl

below_quiet : {xs : List LinkSymbol} → Uses below_code xs
unfolding below_code
below_quiet = quiet refl

unary_quiet : (o : UnaryOperator) {xs : List LinkSymbol} → Uses (unary_code o) xs
unary_quiet unary.Plus = nothing
unary_quiet unary.Minus = quiet refl
unary_quiet unary.Abs = quiet refl
unary_quiet unary.Not = quiet refl

binary_quiet : (o : BinaryOperator) (words : ℕ) {xs : List LinkSymbol} → Uses (binary_code o words) xs
binary_quiet binary.And words = quiet refl
binary_quiet binary.Or words = quiet refl
binary_quiet binary.Xor words = quiet refl
binary_quiet binary.Equal words = quiet refl
binary_quiet binary.NotEqual words = quiet refl
binary_quiet binary.Less words = quiet refl
binary_quiet binary.LessOrEqual words = quiet refl
binary_quiet binary.Greater words = quiet refl
binary_quiet binary.GreaterOrEqual words = quiet refl
binary_quiet binary.Plus words = quiet refl
binary_quiet binary.Minus words = quiet refl
binary_quiet binary.Times words = quiet refl
binary_quiet binary.Divide words = quiet refl
binary_quiet binary.Mod words = quiet refl
binary_quiet binary.Rem words = quiet refl
binary_quiet binary.Power words = quiet refl
binary_quiet binary.SameWords words = quiet refl
binary_quiet binary.OtherWords words = quiet refl

negation_quiet : (b : Bool) {xs : List LinkSymbol} → Uses (negation_code b) xs
negation_quiet true = quiet refl
negation_quiet false = nothing

short_used : (o : ShortCircuit) {p : List Piece} {xs : List LinkSymbol} → Uses p xs → Uses (short_code o p) xs
unfolding short_code
short_used short.AndThen h = end_of construct.Choice (then (guarded_used (then h waiting)) whole)
short_used short.OrElse h = end_of construct.Choice (then (guarded_used (quiet refl)) h)

step_quiet : (c : Conversion) {xs : List LinkSymbol} → Uses (step_code c) xs
unfolding step_code
step_quiet conversions.Succ = quiet refl
step_quiet conversions.Pred = quiet refl
step_quiet _ = nothing

static_used : (v : Option StaticValue) {p : List Piece} {xs : List LinkSymbol} → Uses p xs → Uses (static_or v p) xs
static_used (Some v) h = quiet refl
static_used None h = h

-- ---- calls

flag_used : (depth : ℕ) (flag : Option ObjectPlace) → Uses (flag_code depth flag) (flag_uses flag)
unfolding flag_code
flag_used depth None = nothing
flag_used depth (Some place) = then (then (place_used Flag depth place) whole) whole

mark_quiet : (depth : ℕ) (c : Callee) {xs : List LinkSymbol} → Uses (mark_code depth c) xs
mark_quiet depth (callee.Subprogram symbol zero) = quiet refl
mark_quiet depth (callee.Subprogram symbol (suc d)) = quiet refl
mark_quiet depth (callee.Protected symbol) = quiet refl
mark_quiet depth (callee.Entry symbol) = quiet refl

routine_used : (c : Callee) (words : ℕ) → Uses (routine_code c words) (callee_uses c)
routine_used (callee.Subprogram symbol depth) words = using_first
routine_used (callee.Protected symbol) words = using_first
routine_used (callee.Entry symbol) words = using_first

formal_quiet : (m : Mode) (b : Option Bounds) {xs : List LinkSymbol} → Uses (formal_code m b) xs
formal_quiet mode.Out b = nothing
formal_quiet mode.In b = check_quiet b
formal_quiet mode.InOut b = check_quiet b

copy_quiet : (a : ActualTree) {xs : List LinkSymbol} → Uses (copy_code a) xs
copy_quiet (InActual x) = nothing
copy_quiet (VariableActual name words m formal actual word) = then (then (check_quiet actual) (load_quiet word)) whole

copies_quiet : (as_ : ActualsTree) {xs : List LinkSymbol} → Uses (copies_code as_) xs
copies_quiet NoActual = nothing
copies_quiet (MoreActuals a as_) = then (copies_quiet as_) (copy_quiet a)

-- ---- names and expressions

mutual
  pub value_used : (depth : ℕ) (x : TypedTree) → Uses (value_of depth x) (typed_uses x)
  value_used depth (Labelled labels form) = static_used labels.value (form_used depth labels.words form)

  form_used : (depth words : ℕ) (form : FormTree) → Uses (form_code depth words form) (form_uses form)
  form_used depth words (LiteralForm value) = quiet refl
  form_used depth words (NamedForm name) = then (address_used depth name) whole
  form_used depth words (UnaryForm operator x) = then (value_used depth x) (unary_quiet operator)
  form_used depth words (BinaryForm operator x y) = then (then (left _ (value_used depth x)) (right (typed_uses x) (value_used depth y))) (binary_quiet operator (words_of x))
  form_used depth words (ShortCircuitForm operator x y) = then (left _ (value_used depth x)) (short_used operator (right (typed_uses x) (value_used depth y)))
  form_used depth words (MembershipForm x is_negated low high word) =
      then (then (then (then (then (then (left _ (left _ (value_used depth x))) (kept_quiet word)) (left _ (right (typed_uses x) (value_used depth low)))) (above_quiet word)) (right (typed_uses x ++ typed_uses low) (value_used depth high))) below_quiet) (negation_quiet is_negated)
  form_used depth words (ConvertedForm conversion x) = converted_used depth conversion x
  form_used depth words (AggregateForm values) = components_used depth values
  form_used depth words (OthersForm count x) = times_used count (checked_used depth x)
  form_used depth words (CallForm call) = call_used depth call
  form_used depth words ClockForm = quiet refl

  pub address_used : (depth : ℕ) (name : NameTree) → Uses (address_of depth name) (name_uses name)
  address_used depth (ObjectName place is_constant) = place_used Data depth place
  address_used depth (ComponentName inner offset) = then (address_used depth inner) whole
  address_used depth (IndexedName array index bounds words) = then (then (left _ (address_used depth array)) (right (name_uses array) (value_used depth index))) whole

  pub checked_used : (depth : ℕ) (x : ValueTree) → Uses (checked_code depth x) (value_uses x)
  checked_used depth (Checked x bounds) = then (value_used depth x) (check_quiet bounds)

  converted_used : (depth : ℕ) (conversion : Conversion) (x : ValueTree) → Uses (converted_code depth conversion x) (value_uses x)
  converted_used depth conversion (Checked x bounds) = then (then (value_used depth x) (step_quiet conversion)) (check_quiet bounds)

  components_used : (depth : ℕ) (values : ValuesTree) → Uses (components_code depth values) (values_uses values)
  components_used depth NoValue = nothing
  components_used depth (MoreValues value values) = then (left _ (checked_used depth value)) (right (value_uses value) (components_used depth values))

  variable_used : (depth : ℕ) (a : ActualTree) → Uses (variable_code depth a) (actual_uses a)
  variable_used depth (InActual x) = nothing
  variable_used depth (VariableActual name words m formal actual word) = then (address_used depth name) (store_quiet word)

  variables_used : (depth : ℕ) (as_ : ActualsTree) → Uses (variables_code depth as_) (actuals_uses as_)
  variables_used depth NoActual = nothing
  variables_used depth (MoreActuals a as_) = then (left _ (variable_used depth a)) (right (actual_uses a) (variables_used depth as_))

  passed_used : (depth : ℕ) (a : ActualTree) → Uses (passed_code depth a) (actual_uses a)
  passed_used depth (InActual x) = checked_used depth x
  passed_used depth (VariableActual name words m formal actual word) = then (then (address_used depth name) whole) (formal_quiet m formal)

  all_passed_used : (depth : ℕ) (as_ : ActualsTree) → Uses (all_passed_code depth as_) (actuals_uses as_)
  all_passed_used depth NoActual = nothing
  all_passed_used depth (MoreActuals a as_) = then (left _ (passed_used depth a)) (right (actual_uses a) (all_passed_used depth as_))

  pub call_used : (depth : ℕ) (c : CallTree) → Uses (call_code depth c) (called_uses c)
  call_used depth (Called c flag words actuals) =
      then
      (then
      (then
      (then
      (then (left _ (right (callee_uses c) (flag_used depth flag))) (right (callee_uses c ++ flag_uses flag) (variables_used depth actuals)))
      (mark_quiet depth c))
      (right (callee_uses c ++ flag_uses flag) (all_passed_used depth actuals)))
      (left _ (left _ (routine_used c words))))
      (copies_quiet actuals)
