-- The words of the frame that an expression's temporaries take, in source order: of each membership test that isn't
-- static the word that keeps its value, and of each actual parameter that is copied back the word that keeps its address.
use Rattle.std.specs.Prelude.{ℕ, ◌+◌, ◌-◌, ◌^◌, min, Option, Some, None}
use Rattle.al_view.specs.declared.types.StaticValue.{StaticValue}
use Rattle.al_view_typed.specs.ExpressionTrees.{TypedTree, FormTree, NameTree, ValueTree, ValuesTree, ActualTree, ActualsTree, CallTree}
use Rattle.al_view_typed.specs.ExpressionTrees.TypedTree.{Labelled}
use Rattle.al_view_typed.specs.ExpressionTrees.FormTree.{LiteralForm, NamedForm, UnaryForm, BinaryForm, ShortCircuitForm, MembershipForm, ConvertedForm, AggregateForm, OthersForm, CallForm, ClockForm}
use Rattle.al_view_typed.specs.ExpressionTrees.NameTree.{ObjectName, ComponentName, IndexedName}
use Rattle.al_view_typed.specs.ExpressionTrees.ValueTree.{Checked}
use Rattle.al_view_typed.specs.ExpressionTrees.ValuesTree.{NoValue, MoreValues}
use Rattle.al_view_typed.specs.ExpressionTrees.ActualTree.{InActual, VariableActual}
use Rattle.al_view_typed.specs.ExpressionTrees.ActualsTree.{NoActual, MoreActuals}
use Rattle.al_view_typed.specs.ExpressionTrees.CallTree.{Called}

-- the word after this one; after the last one that there is, that one again
abbrev pub next_word : ℕ → ℕ
next_word word = min (word + 1) (2 ^ 32 - 1)

-- an expression with a value is that value, and takes no words
abbrev pub unless_static : {A : Type 0} → Option StaticValue → A → A → A
unless_static (Some value) static other = static
unless_static None static other = other

-- The next word after those of a tree, if the first one to take is this one.
abbrev mutual
  pub after : ℕ → TypedTree → ℕ
  after word (Labelled labels form) = unless_static labels.value word (form_after word form)

  pub form_after : ℕ → FormTree → ℕ
  form_after word (LiteralForm value) = word
  form_after word (NamedForm name) = name_after word name
  form_after word (UnaryForm operator operand) = after word operand
  form_after word (BinaryForm operator left right) = after (after word left) right
  form_after word (ShortCircuitForm operator left right) = after (after word left) right
  form_after word (MembershipForm value is_negated low high slot) = after (after (after (next_word word) value) low) high
  form_after word (ConvertedForm conversion value) = value_after word value
  form_after word (AggregateForm values) = values_after word values
  form_after word (OthersForm count value) = value_after word value
  form_after word (CallForm call) = call_after word call
  form_after word ClockForm = word

  pub name_after : ℕ → NameTree → ℕ
  name_after word (ObjectName place is_constant) = word
  name_after word (ComponentName whole offset) = name_after word whole
  name_after word (IndexedName array index bounds words) = after (name_after word array) index

  pub value_after : ℕ → ValueTree → ℕ
  value_after word (Checked value bounds) = after word value

  pub values_after : ℕ → ValuesTree → ℕ
  values_after word NoValue = word
  values_after word (MoreValues value more) = values_after (value_after word value) more

  pub actual_after : ℕ → ActualTree → ℕ
  actual_after word (InActual value) = value_after word value
  actual_after word (VariableActual name words mode formal actual slot) = name_after (next_word word) name

  pub actuals_after : ℕ → ActualsTree → ℕ
  actuals_after word NoActual = word
  actuals_after word (MoreActuals actual more) = actuals_after (actual_after word actual) more

  pub call_after : ℕ → CallTree → ℕ
  call_after word (Called callee flag words actuals) = actuals_after word actuals

-- The tree with its words, if the first one to take is this one.
abbrev mutual
  pub numbered : ℕ → TypedTree → TypedTree
  numbered word (Labelled labels form) = Labelled labels (unless_static labels.value form (form_numbered word form))

  pub form_numbered : ℕ → FormTree → FormTree
  form_numbered word (LiteralForm value) = LiteralForm value
  form_numbered word (NamedForm name) = NamedForm (name_numbered word name)
  form_numbered word (UnaryForm operator operand) = UnaryForm operator (numbered word operand)
  form_numbered word (BinaryForm operator left right) = BinaryForm operator (numbered word left) (numbered (after word left) right)
  form_numbered word (ShortCircuitForm operator left right) =
      ShortCircuitForm operator (numbered word left) (numbered (after word left) right)
  form_numbered word (MembershipForm value is_negated low high slot) =
      MembershipForm (numbered (next_word word) value) is_negated (numbered (after (next_word word) value) low)
      (numbered (after (after (next_word word) value) low) high) word
  form_numbered word (ConvertedForm conversion value) = ConvertedForm conversion (value_numbered word value)
  form_numbered word (AggregateForm values) = AggregateForm (values_numbered word values)
  form_numbered word (OthersForm count value) = OthersForm count (value_numbered word value)
  form_numbered word (CallForm call) = CallForm (call_numbered word call)
  form_numbered word ClockForm = ClockForm

  pub name_numbered : ℕ → NameTree → NameTree
  name_numbered word (ObjectName place is_constant) = ObjectName place is_constant
  name_numbered word (ComponentName whole offset) = ComponentName (name_numbered word whole) offset
  name_numbered word (IndexedName array index bounds words) =
      IndexedName (name_numbered word array) (numbered (name_after word array) index) bounds words

  pub value_numbered : ℕ → ValueTree → ValueTree
  value_numbered word (Checked value bounds) = Checked (numbered word value) bounds

  pub values_numbered : ℕ → ValuesTree → ValuesTree
  values_numbered word NoValue = NoValue
  values_numbered word (MoreValues value more) =
      MoreValues (value_numbered word value) (values_numbered (value_after word value) more)

  pub actual_numbered : ℕ → ActualTree → ActualTree
  actual_numbered word (InActual value) = InActual (value_numbered word value)
  actual_numbered word (VariableActual name words mode formal actual slot) =
      VariableActual (name_numbered (next_word word) name) words mode formal actual word

  pub actuals_numbered : ℕ → ActualsTree → ActualsTree
  actuals_numbered word NoActual = NoActual
  actuals_numbered word (MoreActuals actual more) =
      MoreActuals (actual_numbered word actual) (actuals_numbered (actual_after word actual) more)

  pub call_numbered : ℕ → CallTree → CallTree
  call_numbered word (Called callee flag words actuals) = Called callee flag words (actuals_numbered word actuals)
