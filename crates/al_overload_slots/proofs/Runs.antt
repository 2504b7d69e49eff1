-- The words of a numbered tree are one after the other.
use Rattle.std.proofs.Common.{◌≡◌, ◌<◌, ◌≤◌, ◌+◌, ◌-◌, ◌^◌, ◌++◌, ℕ, List, [], ◌∷◌, length, Option, Some, None, refl, sym, ap, subst, ◌∙◌, arith}
use Rattle.al_view.specs.declared.types.StaticValue.{StaticValue}
use Rattle.al_view_typed.specs.ExpressionTrees.{TypedTree, FormTree, NameTree, ValueTree, ValuesTree, ActualTree, ActualsTree, CallTree}
use Rattle.al_view_typed.specs.ExpressionTrees.TypedTree.{Labelled}
use Rattle.al_view_typed.specs.ExpressionTrees.FormTree.{LiteralForm, NamedForm, UnaryForm, BinaryForm, ShortCircuitForm, MembershipForm, ConvertedForm, AggregateForm, OthersForm, CallForm, ClockForm}
use Rattle.al_view_typed.specs.ExpressionTrees.NameTree.{ObjectName, ComponentName, IndexedName}
use Rattle.al_view_typed.specs.ExpressionTrees.ValueTree.{Checked}
use Rattle.al_view_typed.specs.ExpressionTrees.ValuesTree.{NoValue, MoreValues}
use Rattle.al_view_typed.specs.ExpressionTrees.ActualTree.{InActual, VariableActual}
use Rattle.al_view_typed.specs.ExpressionTrees.ActualsTree.{NoActual, MoreActuals}
use Rattle.al_view_typed.specs.ExpressionTrees.CallTree.{Called}
use Rattle.al_overload_slots.specs.Slots.{after, form_after, name_after, value_after, values_after, actual_after, actuals_after, call_after, next_word, numbered, form_numbered, name_numbered, value_numbered, values_numbered, actual_numbered, actuals_numbered, call_numbered, unless_static}
use Rattle.al_overload_slots.specs.Laws.{words, form_words, name_words, value_words, values_words, actual_words, actuals_words, call_words, words_from, EachHasAWordOfItsOwn}

-- the words of a list are one after the other from this one on, and the next one after them is that one
abbrev pub IsRun : ℕ → List ℕ → ℕ → Type 0
IsRun first [] next = first ≡ next
IsRun first (word ∷ more) next = (word ≡ first) × IsRun (next_word first) more next

pub then : (first : ℕ) (xs ys : List ℕ) (middle next : ℕ) → IsRun first xs middle → IsRun middle ys next → IsRun first (xs ++ ys) next
then first [] ys middle next is rest = subst (λ (w : ℕ). IsRun w ys next) (sym is) rest
then first (x ∷ xs) ys middle next run rest = (run.0, then (next_word first) xs ys middle next run.1 rest)

-- the first of a run isn't after the next one
pub ascends : (first : ℕ) (xs : List ℕ) (next : ℕ) → IsRun first xs next → next < 2 ^ 32 - 1 → first ≤ next
ascends first [] next is less = omega (arith, is)
ascends first (x ∷ xs) next run less = let rest = ascends (next_word first) xs next run.1 less in grind (arith, rest, less)

-- as long as there are words, those after one another are the numbers in turn
pub next_is : (first next : ℕ) → next_word first ≤ next → next < 2 ^ 32 - 1 → next_word first ≡ first + 1
next_is first next up less = grind (arith, up, less)

pub counted : (first : ℕ) (xs : List ℕ) (next : ℕ) → IsRun first xs next → next < 2 ^ 32 - 1 → (xs ≡ words_from first (length xs)) × (next ≡ first + length xs)
counted first [] next is less = (refl, omega (arith, is))
counted first (x ∷ xs) next run less =
    let one = next_is first next (ascends (next_word first) xs next run.1 less) less in
    let rest = counted (next_word first) xs next run.1 less in
    let count = rest.1 in
    (ap (λ (w : ℕ). w ∷ xs) run.0 ∙ ap (λ (ws : List ℕ). first ∷ ws) (rest.0 ∙ ap (λ (w : ℕ). words_from w (length xs)) one), omega (arith, one, count))

pub static_run : (value : Option StaticValue) (word : ℕ) (form : FormTree) → IsRun word (form_words (form_numbered word form)) (form_after word form) → IsRun word (unless_static value [] (form_words (unless_static value form (form_numbered word form)))) (unless_static value word (form_after word form))
static_run (Some value) word form run = refl
static_run None word form run = run

mutual
  pub run : (word : ℕ) (t : TypedTree) → IsRun word (words (numbered word t)) (after word t)
  run word (Labelled labels form) = static_run labels.value word form (form_run word form)

  form_run : (word : ℕ) (f : FormTree) → IsRun word (form_words (form_numbered word f)) (form_after word f)
  form_run word (LiteralForm value) = refl
  form_run word (NamedForm name) = name_run word name
  form_run word (UnaryForm operator operand) = run word operand
  form_run word (BinaryForm operator left right) =
      then word (words (numbered word left)) (words (numbered (after word left) right)) (after word left) (after (after word left) right) (run word left) (run (after word left) right)
  form_run word (ShortCircuitForm operator left right) =
      then word (words (numbered word left)) (words (numbered (after word left) right)) (after word left) (after (after word left) right) (run word left) (run (after word left) right)
  form_run word (MembershipForm value is_negated low high slot) =
      let v = after (next_word word) value in let l = after v low in let h = after l high in (
        refl,
        then (next_word word) (words (numbered (next_word word) value)) (words (numbered v low) ++ words (numbered l high)) v h (run (next_word word) value)
            (then v (words (numbered v low)) (words (numbered l high)) l h (run v low) (run l high)),
      )
  form_run word (ConvertedForm conversion value) = value_run word value
  form_run word (AggregateForm values) = values_run word values
  form_run word (OthersForm count value) = value_run word value
  form_run word (CallForm call) = call_run word call
  form_run word ClockForm = refl

  name_run : (word : ℕ) (n : NameTree) → IsRun word (name_words (name_numbered word n)) (name_after word n)
  name_run word (ObjectName place is_constant) = refl
  name_run word (ComponentName whole offset) = name_run word whole
  name_run word (IndexedName array index bounds size) =
      then word (name_words (name_numbered word array)) (words (numbered (name_after word array) index)) (name_after word array) (after (name_after word array) index)
      (name_run word array) (run (name_after word array) index)

  value_run : (word : ℕ) (v : ValueTree) → IsRun word (value_words (value_numbered word v)) (value_after word v)
  value_run word (Checked value bounds) = run word value

  values_run : (word : ℕ) (vs : ValuesTree) → IsRun word (values_words (values_numbered word vs)) (values_after word vs)
  values_run word NoValue = refl
  values_run word (MoreValues value more) =
      then word (value_words (value_numbered word value)) (values_words (values_numbered (value_after word value) more)) (value_after word value) (values_after (value_after word value) more)
      (value_run word value) (values_run (value_after word value) more)

  actual_run : (word : ℕ) (a : ActualTree) → IsRun word (actual_words (actual_numbered word a)) (actual_after word a)
  actual_run word (InActual value) = value_run word value
  actual_run word (VariableActual name size mode formal actual slot) = (refl, name_run (next_word word) name)

  actuals_run : (word : ℕ) (as_ : ActualsTree) → IsRun word (actuals_words (actuals_numbered word as_)) (actuals_after word as_)
  actuals_run word NoActual = refl
  actuals_run word (MoreActuals actual more) =
      then word (actual_words (actual_numbered word actual)) (actuals_words (actuals_numbered (actual_after word actual) more)) (actual_after word actual) (actuals_after (actual_after word actual) more)
      (actual_run word actual) (actuals_run (actual_after word actual) more)

  call_run : (word : ℕ) (c : CallTree) → IsRun word (call_words (call_numbered word c)) (call_after word c)
  call_run word (Called callee flag size actuals) = actuals_run word actuals

pub each_has_a_word : EachHasAWordOfItsOwn
each_has_a_word word tree less = counted word (words (numbered word tree)) (after word tree) (run word tree) less
