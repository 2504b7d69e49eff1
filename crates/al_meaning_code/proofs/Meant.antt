-- The meaning of an expression of the subset is what it gives by what the variables hold, and it leaves the state as it is.
use Rattle.std.proofs.Common.{◌≡◌, ◌==◌, ℕ, ℤ, [], ◌∷◌, Bool, true, false, Option, Some, None, Ok, Err, length, refl, ◌∙◌, ap}
use Rattle.std.specs.Prelude.{pos, int_le, ◌&&◌, if◌then◌else◌}
use Rattle.al_view.specs.declared.types.Bounds.{Bounds}
use Rattle.al_view.specs.declared.types.StaticValue.{StaticValue}
use Rattle.al_view.specs.declared.view.ObjectPlace.{ObjectPlace}
use Rattle.al_view_typed.specs.declared.label.BinaryOperator.{BinaryOperator}
use Rattle.al_view_typed.specs.declared.label.BinaryOperator.TheVariants as source
use Rattle.al_view_typed.specs.declared.label.Conversion.{Conversion}
use Rattle.al_view_typed.specs.declared.label.ShortCircuit.{ShortCircuit}
use Rattle.al_view_typed.specs.declared.label.ShortCircuit.TheVariants as short
use Rattle.al_view_typed.specs.ExpressionTrees.{TypedTree, FormTree, NameTree, ValueTree}
use Rattle.al_view_typed.specs.ExpressionTrees.TypedTree.{Labelled}
use Rattle.al_view_typed.specs.ExpressionTrees.FormTree.{LiteralForm, NamedForm, UnaryForm, BinaryForm, ShortCircuitForm, MembershipForm, ConvertedForm, AggregateForm, OthersForm, CallForm, ClockForm}
use Rattle.al_view_typed.specs.ExpressionTrees.NameTree.{ObjectName, ComponentName, IndexedName}
use Rattle.al_view_typed.specs.ExpressionTrees.ValueTree.{Checked}
use Rattle.al_meaning.specs.Scalars.{ConstraintError, Valued, truth_of, with_truth, within, applied, applied_to, stepped}
use Rattle.al_meaning.specs.States.{State, Outcome, Gives, Raises, Act, next, ◌>>=◌, give, Words, one, of_value, of_truth, truth_in, scalar, further, fetched, checked, raise}
use Rattle.al_meaning.specs.Expressions.{Calls, value, form_value, named, checked_value, converted, static_or, operated, decided, stepped_words, component}
use Rattle.al_base.specs.declared.unit_key.UnitKey.{UnitKey}
use Rattle.al_meaning.specs.Statements.{number, condition}
use Rattle.al_meaning_code.specs.Subset.{IsScalar, IsName, OrStatic, IsIn, IsInForm, IsInValue}
use Rattle.al_meaning_code.proofs.Plain as plain
use Rattle.al_meaning_code.proofs.Plain.{Placed, then_place, in_array, element, indexed, word_in, then_value, or_static, decided as plain_decided}

-- a value or a failure, in a state that stays
abbrev pub outcome : State → Valued → Outcome Words
outcome st (Ok v) = Gives (v ∷ []) st
outcome st (Err f) = Raises f None st

one_meant : (st : State) (o : Valued) → one (of_value o) st ≡ outcome st o
one_meant st (Ok v) = refl
one_meant st (Err f) = refl

then_meant : (st : State) (o : Valued) (k : Words → Act Words) (f : ℤ → Valued) → ((v : ℤ) → k (v ∷ []) st ≡ outcome st (f v)) → next (outcome st o) k ≡ outcome st (then_value o f)
then_meant st (Ok v) k f h = h v
then_meant st (Err e) k f h = refl

checked_meant : (st : State) (b : Option Bounds) (v : ℤ) → checked b (v ∷ []) st ≡ outcome st (within b v)
checked_meant st None v = refl
checked_meant st (Some b) v = one_meant st (within (Some b) v)

operated_meant : (st : State) (o : BinaryOperator) (a b : ℤ) → IsScalar o → operated o (a ∷ []) (b ∷ []) st ≡ outcome st (applied o a b)
unfolding operated
operated_meant st source.SameWords a b s = absurd s
operated_meant st source.OtherWords a b s = absurd s
operated_meant st source.And a b s = one_meant st (applied source.And a b)
operated_meant st source.Or a b s = one_meant st (applied source.Or a b)
operated_meant st source.Xor a b s = one_meant st (applied source.Xor a b)
operated_meant st source.Equal a b s = one_meant st (applied source.Equal a b)
operated_meant st source.NotEqual a b s = one_meant st (applied source.NotEqual a b)
operated_meant st source.Less a b s = one_meant st (applied source.Less a b)
operated_meant st source.LessOrEqual a b s = one_meant st (applied source.LessOrEqual a b)
operated_meant st source.Greater a b s = one_meant st (applied source.Greater a b)
operated_meant st source.GreaterOrEqual a b s = one_meant st (applied source.GreaterOrEqual a b)
operated_meant st source.Plus a b s = one_meant st (applied source.Plus a b)
operated_meant st source.Minus a b s = one_meant st (applied source.Minus a b)
operated_meant st source.Times a b s = one_meant st (applied source.Times a b)
operated_meant st source.Divide a b s = one_meant st (applied source.Divide a b)
operated_meant st source.Mod a b s = one_meant st (applied source.Mod a b)
operated_meant st source.Rem a b s = one_meant st (applied source.Rem a b)
operated_meant st source.Power a b s = one_meant st (applied source.Power a b)

short_meant : (st : State) (o : ShortCircuit) (v : ℤ) (right : Act Words) (r : Valued) → right st ≡ outcome st r → (of_truth v >>= (λ l. decided o l right)) st ≡ outcome st (plain_decided o v r)
unfolding decided plain_decided
short_meant st short.AndThen v right r h = go (truth_of v)
  where
    go : (t : Option Bool) → next (truth_in t st) (λ l. decided short.AndThen l right) ≡ outcome st (with_truth t (λ b. if b then r else Ok (pos 0)))
    go None = refl
    go (Some true) = h
    go (Some false) = refl
short_meant st short.OrElse v right r h = go (truth_of v)
  where
    go : (t : Option Bool) → next (truth_in t st) (λ l. decided short.OrElse l right) ≡ outcome st (with_truth t (λ b. if b then Ok (pos 1) else r))
    go None = refl
    go (Some true) = refl
    go (Some false) = h

step_meant : (st : State) (c : Conversion) (b : Option Bounds) (v : ℤ) → next (stepped_words (λ z. stepped c z) (v ∷ []) st) (λ ws. checked b ws) ≡ outcome st (then_value (stepped c v) (within b))
step_meant st c b v = go (stepped c v)
  where
    go : (o : Valued) → next (one (of_value o) st) (λ ws. checked b ws) ≡ outcome st (then_value o (within b))
    go (Ok w) = checked_meant st b w
    go (Err f) = refl

-- a place or a failure
abbrev pub placing : State → Placed → Outcome ObjectPlace
placing st (Ok p) = Gives p st
placing st (Err f) = Raises f None st

in_meant : (st : State) (c : Bool) (q : ObjectPlace) → (if c then give q else raise ConstraintError) st ≡ placing st (in_array c q)
in_meant st true q = refl
in_meant st false q = refl

index_meant : (st : State) (p : ObjectPlace) (b : Bounds) (words : ℕ) (o : Valued) → next (outcome st o) (λ is. scalar is >>= (λ i. component p b words i)) ≡ placing st (indexed b words p o)
index_meant st p b words (Ok i) = in_meant st (int_le b.low i && int_le i b.high) (element b words p i)
index_meant st p b words (Err f) = refl

word_meant : (st : State) (o : Placed) → next (placing st o) (λ place. fetched place 1) ≡ outcome st (word_in st.words o)
word_meant st (Ok p) = refl
word_meant st (Err f) = refl

field_meant : (st : State) (offset : ℕ) (o : Placed) → next (placing st o) (λ place. give (further place offset)) ≡ placing st (then_place o (λ q. Ok (further q offset)))
field_meant st offset (Ok q) = refl
field_meant st offset (Err f) = refl

array_meant : (st : State) (b : Bounds) (words : ℕ) (act : Act Words) (v : Valued) → act st ≡ outcome st v → (o : Placed) → next (placing st o) (λ place. act >>= (λ is. scalar is >>= (λ i. component place b words i))) ≡ placing st (then_place o (λ q. indexed b words q v))
array_meant st b words act v e (Ok q) = ap (λ (r : Outcome Words). next r (λ is. scalar is >>= (λ i. component q b words i))) e ∙ index_meant st q b words v
array_meant st b words act v e (Err f) = refl

module _ (calls : Calls) (V : ObjectPlace → Type 0) where
  static_meant : (st : State) (v : Option StaticValue) (act : Act Words) (o : Valued) (P : Type 0) → OrStatic v P → (P → act st ≡ outcome st o) → static_or v act st ≡ outcome st (or_static v o)
  static_meant st (Some v) act o P h g = refl
  static_meant st None act o P h g = g h

  mutual
    pub value_meant : (st : State) (t : TypedTree) → IsIn V t → value calls t st ≡ outcome st (plain.value st.words t)
    value_meant st (Labelled labels form) h = static_meant st labels.value (form_value calls labels.words form) (plain.value_of_form st.words form) (IsInForm V labels.words form) h (λ k. form_meant st labels.words form k)

    form_meant : (st : State) (w : ℕ) (form : FormTree) → IsInForm V w form → form_value calls w form st ≡ outcome st (plain.value_of_form st.words form)
    form_meant st w (LiteralForm v) h = refl
    form_meant st w (NamedForm name) h =
        ap (λ (o : Outcome ObjectPlace). next o (λ place. fetched place w)) (named_meant st name h.0)
        ∙ ap (λ (k : ℕ). next (placing st (plain.placed st.words name)) (λ place. fetched place k)) h.1 ∙ word_meant st (plain.placed st.words name)
    form_meant st w (UnaryForm operator x) h =
        let k : Words → Act Words = λ vs. scalar vs >>= (λ v. one (of_value (applied_to operator v))) in
        ap (λ (r : Outcome Words). next r k) (value_meant st x h) ∙ then_meant st (plain.value st.words x) k (λ v. applied_to operator v) (λ v. one_meant st (applied_to operator v))
    form_meant st w (BinaryForm operator x y) h =
        let k : Words → Act Words = λ xs. value calls y >>= (λ ys. operated operator xs ys) in
        ap (λ (r : Outcome Words). next r k) (value_meant st x h.1)
        ∙ then_meant st (plain.value st.words x) k (λ a. then_value (plain.value st.words y) (applied operator a))
        (λ a. ap (λ (r : Outcome Words). next r (λ ys. operated operator (a ∷ []) ys)) (value_meant st y h.2)
        ∙ then_meant st (plain.value st.words y) (λ ys. operated operator (a ∷ []) ys) (applied operator a) (λ b. operated_meant st operator a b h.0))
    form_meant st w (ShortCircuitForm operator x y) h =
        let k : Words → Act Words = λ vs. scalar vs >>= (λ v. of_truth v >>= (λ l. decided operator l (value calls y))) in
        ap (λ (r : Outcome Words). next r k) (value_meant st x h.0)
        ∙ then_meant st (plain.value st.words x) k (λ a. plain_decided operator a (plain.value st.words y)) (λ a. short_meant st operator a (value calls y) (plain.value st.words y) (value_meant st y h.1))
    form_meant st w (ConvertedForm conversion x) h = converted_meant st conversion x h
    form_meant st w (MembershipForm x is_negated low high word) h = absurd h
    form_meant st w (AggregateForm values) h = absurd h
    form_meant st w (OthersForm count x) h = absurd h
    form_meant st w (CallForm call) h = absurd h
    form_meant st w ClockForm h = absurd h

    pub named_meant : (st : State) (name : NameTree) → IsName V name → named calls name st ≡ placing st (plain.placed st.words name)
    named_meant st (ObjectName p is_constant) h = refl
    named_meant st (ComponentName whole offset) h = ap (λ (o : Outcome ObjectPlace). next o (λ place. give (further place offset))) (named_meant st whole h.0) ∙ field_meant st offset (plain.placed st.words whole)
    named_meant st (IndexedName array index b words) h =
        ap (λ (o : Outcome ObjectPlace). next o (λ place. value calls index >>= (λ is. scalar is >>= (λ i. component place b words i)))) (named_meant st array h.0)
        ∙ array_meant st b words (value calls index) (plain.value st.words index) (value_meant st index h.1) (plain.placed st.words array)

    converted_meant : (st : State) (c : Conversion) (x : ValueTree) → IsInValue V x → converted calls (λ v. stepped c v) x st ≡ outcome st (plain.converted st.words c x)
    converted_meant st c (Checked x bounds) h =
        let k : Words → Act Words = λ vs. (if length vs == 1 then stepped_words (λ v. stepped c v) vs else give vs) >>= (λ ws. checked bounds ws) in
        ap (λ (r : Outcome Words). next r k) (value_meant st x h)
        ∙ then_meant st (plain.value st.words x) k (λ a. then_value (stepped c a) (within bounds)) (λ a. step_meant st c bounds a)

  pub checked_value_meant : (st : State) (x : ValueTree) → IsInValue V x → checked_value calls x st ≡ outcome st (plain.checked_value st.words x)
  checked_value_meant st (Checked x bounds) h =
      let k : Words → Act Words = λ vs. checked bounds vs in
      ap (λ (r : Outcome Words). next r k) (value_meant st x h)
      ∙ then_meant st (plain.value st.words x) k (within bounds) (λ v. checked_meant st bounds v)

-- ---- numbers and conditions

numbers_meant : (calls : Calls) (V : ObjectPlace → Type 0) (unit : UnitKey) (depth fuel : ℕ) (st : State) (t : TypedTree) → IsIn V t → number calls unit depth fuel t st ≡ of_value (plain.value st.words t) st
numbers_meant calls V unit depth fuel st t h = ap (λ (o : Outcome Words). next o (λ vs. scalar vs)) (value_meant calls V st t h) ∙ go (plain.value st.words t)
  where
    go : (o : Valued) → next (outcome st o) (λ vs. scalar vs) ≡ of_value o st
    go (Ok v) = refl
    go (Err f) = refl

pub conditions_meant : (calls : Calls) (V : ObjectPlace → Type 0) (unit : UnitKey) (depth fuel : ℕ) (st : State) (t : TypedTree) → IsIn V t → condition calls unit depth fuel t st ≡ next (of_value (plain.value st.words t) st) (λ v. of_truth v)
conditions_meant calls V unit depth fuel st t h = ap (λ (o : Outcome ℤ). next o (λ v. of_truth v)) (numbers_meant calls V unit depth fuel st t h)
