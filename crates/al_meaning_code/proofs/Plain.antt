-- What scalar expressions without calls give, by what the variables hold.
use Rattle.std.specs.Prelude.{ℕ, ℤ, pos, if◌then◌else◌, Option, Some, None, Ok, Err, ◌-ℤ◌, unsigned_abs, int_le, Result}
use Rattle.al_view.specs.declared.types.Bounds.{Bounds}
use Rattle.al_view.specs.declared.types.StaticValue.{StaticValue}
use Rattle.al_view.specs.declared.view.ObjectPlace.{ObjectPlace}
use Rattle.al_view_typed.specs.declared.label.Conversion.{Conversion}
use Rattle.al_view_typed.specs.declared.label.ShortCircuit.{ShortCircuit}
use Rattle.al_view_typed.specs.declared.label.ShortCircuit.TheVariants as short
use Rattle.al_view_typed.specs.ExpressionTrees.{TypedTree, FormTree, NameTree, ValueTree}
use Rattle.al_view_typed.specs.ExpressionTrees.TypedTree.{Labelled}
use Rattle.al_view_typed.specs.ExpressionTrees.FormTree.{LiteralForm, NamedForm, UnaryForm, BinaryForm, ShortCircuitForm, MembershipForm, ConvertedForm, AggregateForm, OthersForm, CallForm, ClockForm}
use Rattle.al_view_typed.specs.ExpressionTrees.NameTree.{ObjectName, ComponentName, IndexedName}
use Rattle.al_view_typed.specs.ExpressionTrees.ValueTree.{Checked}
use Rattle.std.proofs.Common.{◌≡◌, ◌*◌, Bool, true, false, ◌&&◌, refl, sym, subst}
use Rattle.al_meaning.specs.States.{further}
use Rattle.al_meaning_code.specs.Subset.{IsPlaceOf, IsName}
use Rattle.al_meaning.specs.Scalars.{Failure, ConstraintError, Meaningless, Valued, truth_of, with_truth, within, applied, applied_to, stepped}

abbrev pub then_value : Valued → (ℤ → Valued) → Valued
then_value (Ok v) go = go v
then_value (Err f) go = Err f

-- what the variables hold
abbrev pub Variables : Type 0
Variables = ObjectPlace → ℤ

abbrev pub or_static : Option StaticValue → Valued → Valued
or_static (Some v) r = Ok v.word
or_static None r = r

-- where the left value decides, the right one isn't evaluated (ARM 4.5.1(7))
unfoldable pub decided : ShortCircuit → ℤ → Valued → Valued
decided short.AndThen l r = with_truth (truth_of l) (λ b. if b then r else Ok (pos 0))
decided short.OrElse l r = with_truth (truth_of l) (λ b. if b then Ok (pos 1) else r)

-- ---- names: the word at which an object or component begins, or a failure

abbrev pub Placed : Type 0
Placed = Result ObjectPlace Failure

abbrev pub then_place : Placed → (ObjectPlace → Placed) → Placed
then_place (Ok p) go = go p
then_place (Err f) go = Err f

abbrev pub in_array : Bool → ObjectPlace → Placed
in_array true p = Ok p
in_array false p = Err ConstraintError

abbrev pub element : Bounds → ℕ → ObjectPlace → ℤ → ObjectPlace
element b words p i = further p (unsigned_abs (i -ℤ b.low) * words)

abbrev pub indexed : Bounds → ℕ → ObjectPlace → Valued → Placed
indexed b words p (Ok i) = in_array (int_le b.low i && int_le i b.high) (element b words p i)
indexed b words p (Err f) = Err f

abbrev pub word_in : Variables → Placed → Valued
word_in env (Ok p) = Ok (env p)
word_in env (Err f) = Err f

abbrev mutual
  pub value : Variables → TypedTree → Valued
  value env (Labelled labels form) = or_static labels.value (value_of_form env form)

  pub value_of_form : Variables → FormTree → Valued
  value_of_form env (LiteralForm v) = Ok v.word
  value_of_form env (NamedForm name) = word_in env (placed env name)
  value_of_form env (UnaryForm operator x) = then_value (value env x) (applied_to operator)
  value_of_form env (BinaryForm operator x y) = then_value (value env x) (λ a. then_value (value env y) (applied operator a))
  value_of_form env (ShortCircuitForm operator x y) = then_value (value env x) (λ a. decided operator a (value env y))
  value_of_form env (ConvertedForm conversion x) = converted env conversion x
  value_of_form env (MembershipForm x is_negated low high word) = Err Meaningless
  value_of_form env (AggregateForm values) = Err Meaningless
  value_of_form env (OthersForm count x) = Err Meaningless
  value_of_form env (CallForm call) = Err Meaningless
  value_of_form env ClockForm = Err Meaningless

  pub placed : Variables → NameTree → Placed
  placed env (ObjectName place is_constant) = Ok place
  placed env (ComponentName whole offset) = then_place (placed env whole) (λ p. Ok (further p offset))
  placed env (IndexedName array index bounds words) = then_place (placed env array) (λ p. indexed bounds words p (value env index))

  pub converted : Variables → Conversion → ValueTree → Valued
  converted env conversion (Checked x bounds) = then_value (value env x) (λ a. then_value (stepped conversion a) (within bounds))

abbrev pub checked_value : Variables → ValueTree → Valued
checked_value env (Checked x bounds) = then_value (value env x) (within bounds)

-- ---- where names can mean

pub both_true : (a b : Bool) → (a && b) ≡ true → (a ≡ true) × (b ≡ true)
both_true true b e = (refl, e)
both_true false b e = absurd (cc)

pub placed_is : (env : Variables) (name : NameTree) (p : ObjectPlace) → placed env name ≡ Ok p → IsPlaceOf name p
placed_is env (ObjectName q is_constant) p e = cc
placed_is env (ComponentName whole offset) p e = go (placed env whole) (λ q i. placed_is env whole q i) refl e
  where
    go : (o : Placed) → ((q : ObjectPlace) → placed env whole ≡ Ok q → IsPlaceOf whole q) → placed env whole ≡ o → then_place o (λ q. Ok (further q offset)) ≡ Ok p → IsPlaceOf (ComponentName whole offset) p
    go (Ok q) h is e = (q, h q is, cc)
    go (Err f) h is e = absurd (cc)
placed_is env (IndexedName array index b words) p e = go (placed env array) (value env index) (λ q i. placed_is env array q i) refl e
  where
    at_element : (q : ObjectPlace) (i : ℤ) (c : Bool) → IsPlaceOf array q → (int_le b.low i && int_le i b.high) ≡ c → in_array c (element b words q i) ≡ Ok p → IsPlaceOf (IndexedName array index b words) p
    at_element q i true h is e = let t = both_true (int_le b.low i) (int_le i b.high) is in (q, i, h, t.0, t.1, cc)
    at_element q i false h is e = absurd (cc)

    go : (o : Placed) (v : Valued) → ((q : ObjectPlace) → placed env array ≡ Ok q → IsPlaceOf array q) → placed env array ≡ o → then_place o (λ q. indexed b words q v) ≡ Ok p → IsPlaceOf (IndexedName array index b words) p
    go (Ok q) (Ok i) h is e = at_element q i (int_le b.low i && int_le i b.high) (h q is) refl e
    go (Ok q) (Err f) h is e = absurd (cc)
    go (Err f) v h is e = absurd (cc)

pub variable_in : (V : ObjectPlace → Type 0) (name : NameTree) (p : ObjectPlace) → IsName V name → IsPlaceOf name p → V p
variable_in V (ObjectName q is_constant) p h i = subst V (sym i) h
variable_in V (ComponentName whole offset) p h i = subst V (sym i.2) (h.1 i.0 i.1)
variable_in V (IndexedName array index b words) p h i = subst V (sym i.5) (h.2 i.0 i.1 i.2 i.3 i.4)
