-- Which words the temporaries of a numbered tree have.
use Rattle.std.specs.Prelude.{◌≡◌, ◌<◌, ◌+◌, ◌-◌, ◌^◌, ◌++◌, ℕ, zero, suc, List, [], ◌∷◌, length}
use Rattle.al_view_typed.specs.ExpressionTrees.{TypedTree, FormTree, NameTree, ValueTree, ValuesTree, ActualTree, ActualsTree, CallTree}
use Rattle.al_view_typed.specs.ExpressionTrees.TypedTree.{Labelled}
use Rattle.al_view_typed.specs.ExpressionTrees.FormTree.{LiteralForm, NamedForm, UnaryForm, BinaryForm, ShortCircuitForm, MembershipForm, ConvertedForm, AggregateForm, OthersForm, CallForm, ClockForm}
use Rattle.al_view_typed.specs.ExpressionTrees.NameTree.{ObjectName, ComponentName, IndexedName}
use Rattle.al_view_typed.specs.ExpressionTrees.ValueTree.{Checked}
use Rattle.al_view_typed.specs.ExpressionTrees.ValuesTree.{NoValue, MoreValues}
use Rattle.al_view_typed.specs.ExpressionTrees.ActualTree.{InActual, VariableActual}
use Rattle.al_view_typed.specs.ExpressionTrees.ActualsTree.{NoActual, MoreActuals}
use Rattle.al_view_typed.specs.ExpressionTrees.CallTree.{Called}
use Rattle.al_overload_slots.specs.Slots.{after, numbered, unless_static}

-- the words that the temporaries of a tree have, in source order
abbrev mutual
  pub words : TypedTree → List ℕ
  words (Labelled labels form) = unless_static labels.value [] (form_words form)

  pub form_words : FormTree → List ℕ
  form_words (LiteralForm value) = []
  form_words (NamedForm name) = name_words name
  form_words (UnaryForm operator operand) = words operand
  form_words (BinaryForm operator left right) = words left ++ words right
  form_words (ShortCircuitForm operator left right) = words left ++ words right
  form_words (MembershipForm value is_negated low high slot) = slot ∷ (words value ++ (words low ++ words high))
  form_words (ConvertedForm conversion value) = value_words value
  form_words (AggregateForm values) = values_words values
  form_words (OthersForm count value) = value_words value
  form_words (CallForm call) = call_words call
  form_words ClockForm = []

  pub name_words : NameTree → List ℕ
  name_words (ObjectName place is_constant) = []
  name_words (ComponentName whole offset) = name_words whole
  name_words (IndexedName array index bounds size) = name_words array ++ words index

  pub value_words : ValueTree → List ℕ
  value_words (Checked value bounds) = words value

  pub values_words : ValuesTree → List ℕ
  values_words NoValue = []
  values_words (MoreValues value more) = value_words value ++ values_words more

  pub actual_words : ActualTree → List ℕ
  actual_words (InActual value) = value_words value
  actual_words (VariableActual name size mode formal actual slot) = slot ∷ name_words name

  pub actuals_words : ActualsTree → List ℕ
  actuals_words NoActual = []
  actuals_words (MoreActuals actual more) = actual_words actual ++ actuals_words more

  pub call_words : CallTree → List ℕ
  call_words (Called callee flag size actuals) = actuals_words actuals

-- so many words, one after the other, from this one on
abbrev pub words_from : ℕ → ℕ → List ℕ
words_from word zero = []
words_from word (suc count) = word ∷ words_from (word + 1) count

-- As long as there are words, a tree's temporaries have those from the first one on up to the next one after the tree, each
-- once and in source order.
abbrev pub EachHasAWordOfItsOwn : Type 0
EachHasAWordOfItsOwn =
    (word : ℕ) (tree : TypedTree) → after word tree < 2 ^ 32 - 1
    → (words (numbered word tree) ≡ words_from word (length (words (numbered word tree))))
    × (after word tree ≡ word + length (words (numbered word tree)))
