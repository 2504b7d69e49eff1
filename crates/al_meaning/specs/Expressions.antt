-- What names and expressions mean (ARM 4), and calls by what bodies do (ARM 6.4).
use Rattle.std.specs.Prelude.{ℕ, zero, suc, ◌*◌, ℤ, pos, unsigned_abs, ◌-ℤ◌, int_le, Bool, true, false, not, ◌&&◌, ◌==◌, if◌then◌else◌, List, [], ◌∷◌, ◌++◌, length, take, drop, Option, Some, None}
use Rattle.std.specs.Ordering.{int_eq}
use Rattle.al_view.specs.declared.symbol.Symbol.{Symbol}
use Rattle.al_view.specs.declared.types.Bounds.{Bounds}
use Rattle.al_view.specs.declared.types.StaticValue.{StaticValue}
use Rattle.al_view.specs.declared.view.Mode.{Mode}
use Rattle.al_view.specs.declared.view.Mode.TheVariants as mode
use Rattle.al_view.specs.declared.view.ObjectPlace.{ObjectPlace}
use Rattle.al_view_typed.specs.declared.expression.Callee.{Callee}
use Rattle.al_view_typed.specs.declared.expression.Callee.TheVariants as callee
use Rattle.al_view_typed.specs.declared.label.BinaryOperator.{BinaryOperator}
use Rattle.al_view_typed.specs.declared.label.BinaryOperator.TheVariants as binary
use Rattle.al_view_typed.specs.declared.label.ShortCircuit.{ShortCircuit}
use Rattle.al_view_typed.specs.declared.label.ShortCircuit.TheVariants as short
use Rattle.al_view_typed.specs.ExpressionTrees.{TypedTree, FormTree, NameTree, ValueTree, ValuesTree, ActualTree, ActualsTree, CallTree}
use Rattle.al_view_typed.specs.ExpressionTrees.TypedTree.{Labelled}
use Rattle.al_view_typed.specs.ExpressionTrees.FormTree.{LiteralForm, NamedForm, UnaryForm, BinaryForm, ShortCircuitForm, MembershipForm, ConvertedForm, AggregateForm, OthersForm, CallForm, ClockForm}
use Rattle.al_view_typed.specs.ExpressionTrees.NameTree.{ObjectName, ComponentName, IndexedName}
use Rattle.al_view_typed.specs.ExpressionTrees.ValueTree.{Checked}
use Rattle.al_view_typed.specs.ExpressionTrees.ValuesTree.{NoValue, MoreValues}
use Rattle.al_view_typed.specs.ExpressionTrees.ActualTree.{InActual, VariableActual}
use Rattle.al_view_typed.specs.ExpressionTrees.ActualsTree.{NoActual, MoreActuals}
use Rattle.al_view_typed.specs.ExpressionTrees.CallTree.{Called}
use Rattle.al_meaning.specs.Scalars.{ConstraintError, Meaningless, Valued, truth, applied, applied_to, stepped}
use Rattle.al_meaning.specs.States.{Act, ◌>>=◌, ◌>>◌, give, raise, of_value, of_truth, Words, scalar, one, checked, further, fetched, store, callable}

-- what the body of a symbol does with the words that are passed: the words that it gives back
abbrev pub Calls : Type 0
Calls = Symbol → Words → Act Words

abbrev pub symbol_of : Callee → Symbol
symbol_of (callee.Subprogram symbol depth) = symbol
symbol_of (callee.Protected symbol) = symbol
symbol_of (callee.Entry symbol) = symbol

-- a static expression is its value (ARM 4.9)
abbrev pub static_or : Option StaticValue → Act Words → Act Words
static_or (Some v) act = give (v.word ∷ [])
static_or None act = act

abbrev pub same_words : Words → Words → Bool
same_words [] [] = true
same_words (x ∷ xs) (y ∷ ys) = int_eq x y && same_words xs ys
same_words _ _ = false

-- of composites equality alone is predefined (ARM 4.5.2(22))
unfoldable pub operated : BinaryOperator → Words → Words → Act Words
operated binary.SameWords xs ys = give (truth (same_words xs ys) ∷ [])
operated binary.OtherWords xs ys = give (truth (not (same_words xs ys)) ∷ [])
operated o xs ys = do
  x ← scalar xs
  y ← scalar ys
  one (of_value (applied o x y))

-- if the left value decides, the right operand isn't evaluated (ARM 4.5.1(7))
unfoldable pub decided : ShortCircuit → Bool → Act Words → Act Words
decided short.AndThen l right = if l then right else give (pos 0 ∷ [])
decided short.OrElse l right = if l then give (pos 1 ∷ []) else right

-- (ARM 4.5.2(28, 30))
abbrev pub belongs : Bool → ℤ → ℤ → ℤ → ℤ
belongs is_negated v l h = let b = int_le l v && int_le v h in truth (if is_negated then not b else b)

abbrev pub repeated : ℕ → Act Words → Act Words
repeated zero act = give []
repeated (suc n) act = do
  xs ← repeated n act
  ys ← act
  give (xs ++ ys)

-- the component of an index (ARM 4.1.1(7))
abbrev pub component : ObjectPlace → Bounds → ℕ → ℤ → Act ObjectPlace
component place b words i =
    if int_le b.low i && int_le i b.high then give (further place (unsigned_abs (i -ℤ b.low) * words)) else raise ConstraintError

abbrev pub stepped_words : (ℤ → Valued) → Words → Act Words
stepped_words step vs = do
  v ← scalar vs
  one (of_value (step v))

-- the range of a formal of mode out isn't checked (ARM 6.4.1(14))
abbrev pub passed_range : Mode → Option Bounds → Option Bounds
passed_range mode.Out b = None
passed_range _ b = b

module _ (calls : Calls) where
  abbrev mutual
    pub value : TypedTree → Act Words
    value (Labelled labels form) = static_or labels.value (form_value labels.words form)

    pub form_value : ℕ → FormTree → Act Words
    form_value words (LiteralForm v) = give (v.word ∷ [])
    form_value words (NamedForm name) = do
      place ← named name
      fetched place words
    form_value words (UnaryForm operator x) = do
      vs ← value x
      v ← scalar vs
      one (of_value (applied_to operator v))
    form_value words (BinaryForm operator x y) = do
      xs ← value x
      ys ← value y
      operated operator xs ys
    form_value words (ShortCircuitForm operator x y) = do
      vs ← value x
      v ← scalar vs
      l ← of_truth v
      decided operator l (value y)
    form_value words (MembershipForm x is_negated low high word) = do
      xs ← value x
      v ← scalar xs
      ls ← value low
      l ← scalar ls
      hs ← value high
      h ← scalar hs
      give (belongs is_negated v l h ∷ [])
    form_value words (ConvertedForm conversion x) = converted (λ v. stepped conversion v) x
    form_value words (AggregateForm values) = components values
    form_value words (OthersForm count x) = repeated count (checked_value x)
    form_value words (CallForm call) = called call
    form_value words ClockForm = raise Meaningless

    -- which words a name means, of which object (ARM 4.1)
    pub named : NameTree → Act ObjectPlace
    named (ObjectName place is_constant) = give place
    named (ComponentName whole offset) = do
      place ← named whole
      give (further place offset)
    named (IndexedName array index bounds words) = do
      place ← named array
      is ← value index
      i ← scalar is
      component place bounds words i

    pub checked_value : ValueTree → Act Words
    checked_value (Checked x bounds) = do
      vs ← value x
      checked bounds vs

    -- (ARM 4.6, 3.5(22, 25))
    pub converted : (ℤ → Valued) → ValueTree → Act Words
    converted step (Checked x bounds) = do
      vs ← value x
      ws ← (if length vs == 1 then stepped_words step vs else give vs)
      checked bounds ws

    -- (ARM 4.3)
    pub components : ValuesTree → Act Words
    components NoValue = give []
    components (MoreValues v vs) = do
      xs ← checked_value v
      ys ← components vs
      give (xs ++ ys)

    -- A variable that is passed is named twice: before all values, for what is copied back, and among the values, for what is passed. So what is
    -- evaluated in between, as a call that changes an index of its name, counts for the second alone. The Manual leaves this order open
    -- (ARM 6.4(10), 6.4.1(17)).
    pub variables : ActualsTree → Act (List ObjectPlace)
    variables NoActual = give []
    variables (MoreActuals a as_) = do
      p ← variable a
      ps ← variables as_
      give (p ++ ps)

    pub variable : ActualTree → Act (List ObjectPlace)
    variable (InActual x) = give []
    variable (VariableActual name words m formal actual word) = do
      p ← named name
      give (p ∷ [])

    pub passed : ActualsTree → Act Words
    passed NoActual = give []
    passed (MoreActuals a as_) = do
      xs ← passed_one a
      ys ← passed as_
      give (xs ++ ys)

    pub passed_one : ActualTree → Act Words
    passed_one (InActual x) = checked_value x
    passed_one (VariableActual name words m formal actual word) = do
      p ← named name
      vs ← fetched p words
      checked (passed_range m formal) vs

    -- a call: what is copied back goes to the variables, from the last one (ARM 6.4.1(17))
    pub called : CallTree → Act Words
    called (Called c flag words actuals) = do
      callable flag
      ps ← variables actuals
      vs ← passed actuals
      back ← calls (symbol_of c) vs
      copied actuals ps back

    -- the words that are left over are a function's result
    pub copied : ActualsTree → List ObjectPlace → Words → Act Words
    copied NoActual ps back = give back
    copied (MoreActuals (InActual x) as_) ps back = copied as_ ps back
    copied (MoreActuals (VariableActual name words m formal actual word) as_) [] back = raise Meaningless
    copied (MoreActuals (VariableActual name words m formal actual word) as_) (p ∷ ps) back = do
      rest ← copied as_ ps (drop words back)
      vs ← checked actual (take words back)
      store p vs
      give rest
