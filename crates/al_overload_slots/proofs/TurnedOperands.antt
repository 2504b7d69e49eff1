-- An expression whose left operands were turned round, and its words.
use Rattle.std.proofs.Common.{◌≡◌, ◌+◌, ◌<◌, ◌≤◌, ℕ, Bool, true, false, cond, Option, Some, None, Box, Global, is_some, refl, sym, ap, subst, ◌∙◌, arith}
use Rattle.std.specs.Prelude.{⊤}
use Rattle.al_view.specs.declared.types.StaticValue.{StaticValue}
use Rattle.al_view_typed.specs.ExpressionTrees.{TypedTree, FormTree}
use Rattle.al_view_typed.specs.ExpressionTrees.TypedTree.{Labelled}
use Rattle.al_view_typed.specs.ExpressionTrees.FormTree.{LiteralForm, NamedForm, UnaryForm, BinaryForm, ShortCircuitForm, MembershipForm, ConvertedForm, AggregateForm, OthersForm, CallForm, ClockForm}
use Rattle.al_view_typed.specs.ExpressionViews.{form_model, typed_model}
use Rattle.al_view_typed.specs.declared.expression.Actual.TheViews.{size_roll-Typed}
use Rattle.al_view_typed.specs.declared.expression.Actual.TheViews.{sized-Binary, sized-ShortCircuit}
use Rattle.al_view_typed.specs.declared.expression.Form.{Form, size-Form}
use Rattle.al_view_typed.specs.declared.expression.Form.TheVariants.{Binary, Binary', ShortCircuit, ShortCircuit', Clock}
use Rattle.al_view_typed.specs.declared.expression.Typed.{Typed, size-Typed, rolls-Typed'}
use Rattle.al_view_typed.specs.declared.label.BinaryOperator.{BinaryOperator}
use Rattle.al_view_typed.specs.declared.label.Labels.{Labels}
use Rattle.al_view_typed.specs.declared.label.ShortCircuit.{ShortCircuit as ShortCircuitOperator}
use Rattle.al_view_typed.proofs.ExpressionsMade.{binary_made, clock_made, short_circuit_made, typed_made}
use Rattle.al_overload_slots.specs.Slots.{after, form_after, form_numbered, numbered, unless_static}
use Rattle.al_overload_slots.specs.Temporaries.{unless_value}
use Rattle.al_overload_slots.specs.Turned.{form_leans, form_left_in, form_right_in, form_with_left, form_with_right, left_in, right_in, tree_leans, with_left, with_right}

-- ---- trees

-- the right operand with its words, and the next word
abbrev pub second_numbered : ℕ → FormTree → FormTree
second_numbered word (BinaryForm operator left right) = BinaryForm operator left (numbered word right)
second_numbered word (ShortCircuitForm operator left right) = ShortCircuitForm operator left (numbered word right)
second_numbered word form = form

abbrev pub second_after : ℕ → FormTree → ℕ
second_after word (BinaryForm operator left right) = after word right
second_after word (ShortCircuitForm operator left right) = after word right
second_after word form = word

-- the whole expression, if this one was turned round above its left operands
abbrev pub unwound : TypedTree → TypedTree → TypedTree
unwound (Labelled labels (BinaryForm operator up right)) operand = unwound up (Labelled labels (BinaryForm operator operand right))
unwound (Labelled labels (ShortCircuitForm operator up right)) operand = unwound up (Labelled labels (ShortCircuitForm operator operand right))
unwound (Labelled labels form) operand = operand

-- the same with the words of its right operands, from this one on
abbrev pub numbered_up : ℕ → TypedTree → TypedTree → TypedTree
numbered_up word (Labelled labels (BinaryForm operator up right)) operand =
    numbered_up (after word right) up (Labelled labels (BinaryForm operator operand (numbered word right)))
numbered_up word (Labelled labels (ShortCircuitForm operator up right)) operand =
    numbered_up (after word right) up (Labelled labels (ShortCircuitForm operator operand (numbered word right)))
numbered_up word (Labelled labels form) operand = operand

abbrev pub after_up : ℕ → TypedTree → ℕ
after_up word (Labelled labels (BinaryForm operator up right)) = after_up (after word right) up
after_up word (Labelled labels (ShortCircuitForm operator up right)) = after_up (after word right) up
after_up word (Labelled labels form) = word

-- no link of the chain is static
abbrev pub AreComputed : TypedTree → Type 0
AreComputed (Labelled labels (BinaryForm operator up right)) = (labels.value ≡ None) × AreComputed up
AreComputed (Labelled labels (ShortCircuitForm operator up right)) = (labels.value ≡ None) × AreComputed up
AreComputed (Labelled labels form) = ⊤

-- what is computed takes its words
computed_numbered : (word : ℕ) (labels : Labels) (form : FormTree) → labels.value ≡ None → numbered word (Labelled labels form) ≡ Labelled labels (form_numbered word form)
computed_numbered word labels form e = ap (λ (v : Option StaticValue). Labelled labels (unless_static v form (form_numbered word form))) e

computed_after : (word : ℕ) (labels : Labels) (form : FormTree) → labels.value ≡ None → after word (Labelled labels form) ≡ form_after word form
computed_after word labels form e = ap (λ (v : Option StaticValue). unless_static v word (form_after word form)) e

pub unwound_numbered : (word : ℕ) (up operand : TypedTree) → AreComputed up → numbered word (unwound up operand) ≡ numbered_up (after word operand) up (numbered word operand)
unwound_numbered word (Labelled labels (BinaryForm operator up right)) operand c =
    unwound_numbered word up (Labelled labels (BinaryForm operator operand right)) c.1
    ∙ ap (λ (w : ℕ). numbered_up w up (numbered word (Labelled labels (BinaryForm operator operand right)))) (computed_after word labels (BinaryForm operator operand right) c.0)
    ∙ ap (numbered_up (after (after word operand) right) up) (computed_numbered word labels (BinaryForm operator operand right) c.0)
unwound_numbered word (Labelled labels (ShortCircuitForm operator up right)) operand c =
    unwound_numbered word up (Labelled labels (ShortCircuitForm operator operand right)) c.1
    ∙ ap (λ (w : ℕ). numbered_up w up (numbered word (Labelled labels (ShortCircuitForm operator operand right)))) (computed_after word labels (ShortCircuitForm operator operand right) c.0)
    ∙ ap (numbered_up (after (after word operand) right) up) (computed_numbered word labels (ShortCircuitForm operator operand right) c.0)
unwound_numbered word (Labelled labels (LiteralForm a)) operand c = refl
unwound_numbered word (Labelled labels (NamedForm a)) operand c = refl
unwound_numbered word (Labelled labels (UnaryForm a b)) operand c = refl
unwound_numbered word (Labelled labels (MembershipForm a b d e f)) operand c = refl
unwound_numbered word (Labelled labels (ConvertedForm a b)) operand c = refl
unwound_numbered word (Labelled labels (AggregateForm a)) operand c = refl
unwound_numbered word (Labelled labels (OthersForm a b)) operand c = refl
unwound_numbered word (Labelled labels (CallForm a)) operand c = refl
unwound_numbered word (Labelled labels ClockForm) operand c = refl

pub unwound_after : (word : ℕ) (up operand : TypedTree) → AreComputed up → after word (unwound up operand) ≡ after_up (after word operand) up
unwound_after word (Labelled labels (BinaryForm operator up right)) operand c =
    unwound_after word up (Labelled labels (BinaryForm operator operand right)) c.1
    ∙ ap (λ (w : ℕ). after_up w up) (computed_after word labels (BinaryForm operator operand right) c.0)
unwound_after word (Labelled labels (ShortCircuitForm operator up right)) operand c =
    unwound_after word up (Labelled labels (ShortCircuitForm operator operand right)) c.1
    ∙ ap (λ (w : ℕ). after_up w up) (computed_after word labels (ShortCircuitForm operator operand right) c.0)
unwound_after word (Labelled labels (LiteralForm a)) operand c = refl
unwound_after word (Labelled labels (NamedForm a)) operand c = refl
unwound_after word (Labelled labels (UnaryForm a b)) operand c = refl
unwound_after word (Labelled labels (MembershipForm a b d e f)) operand c = refl
unwound_after word (Labelled labels (ConvertedForm a b)) operand c = refl
unwound_after word (Labelled labels (AggregateForm a)) operand c = refl
unwound_after word (Labelled labels (OthersForm a b)) operand c = refl
unwound_after word (Labelled labels (CallForm a)) operand c = refl
unwound_after word (Labelled labels ClockForm) operand c = refl

-- ---- the program's expressions

typed_layers : (t : Typed) → typed_model t ≡ Labelled t.labels (form_model t.form)
typed_layers t = ap typed_model (sym (rolls-Typed' (record { labels = t.labels; form = t.form }))) ∙ typed_made t.labels t.form

pub form_less : (t : Typed) → size-Form t.form < size-Typed t
form_less t = omega (arith, ap size-Typed (sym (rolls-Typed' (record { labels = t.labels; form = t.form }))) ∙ size_roll-Typed (record { labels = t.labels; form = t.form }))

-- how deep its right operand is
abbrev pub second_size : Form → ℕ
second_size (Binary' operator p labels form q second other) = size-Typed (record { labels = second; form = other })
second_size (ShortCircuit' operator p labels form q second other) = size-Typed (record { labels = second; form = other })
second_size form = 0

-- right operands are less deep than this
abbrev pub AreBelow : ℕ → Form → Type 0
AreBelow bound (Binary' operator p labels form q second other) = (size-Typed (record { labels = second; form = other }) < bound) × AreBelow bound form
AreBelow bound (ShortCircuit' operator p labels form q second other) = (size-Typed (record { labels = second; form = other }) < bound) × AreBelow bound form
AreBelow bound form = ⊤

binary_layers : (labels : Labels) (operator : BinaryOperator) (left right : Box Typed Global)
    → typed_model (record { labels = labels; form = Binary operator left right }) ≡ Labelled labels (BinaryForm operator (typed_model left.value) (typed_model right.value))
binary_layers labels operator left right = typed_layers (record { labels = labels; form = Binary operator left right }) ∙ ap (Labelled labels) (binary_made operator left right)

short_circuit_layers : (labels : Labels) (operator : ShortCircuitOperator) (left right : Box Typed Global)
    → typed_model (record { labels = labels; form = ShortCircuit operator left right }) ≡ Labelled labels (ShortCircuitForm operator (typed_model left.value) (typed_model right.value))
short_circuit_layers labels operator left right = typed_layers (record { labels = labels; form = ShortCircuit operator left right }) ∙ ap (Labelled labels) (short_circuit_made operator left right)

not_static : (value : Option StaticValue) (b : Bool) → unless_value value b ≡ true → value ≡ None
not_static (Some value) b e = absurd (cc)
not_static None b e = refl

does_lean : (value : Option StaticValue) (b : Bool) → unless_value value b ≡ true → b ≡ true
does_lean (Some value) b e = absurd (cc)
does_lean None b e = e

-- a step down
pub record IsDown (bound : ℕ) (typed passed new new-passed : Typed) : Type 0 where
  pub same : unwound (typed_model new-passed) (typed_model new) ≡ unwound (typed_model passed) (typed_model typed)
  pub less : size-Typed new < size-Typed typed
  pub below : AreBelow bound new-passed.form
  pub computed : AreComputed (typed_model new-passed)

down_binary : (bound : ℕ) (labels : Labels) (operator : BinaryOperator) (left right : Box Typed Global) (passed : Typed) → labels.value ≡ None
    → size-Typed (record { labels = labels; form = Binary operator left right }) ≤ bound → AreBelow bound passed.form → AreComputed (typed_model passed)
    → IsDown bound (record { labels = labels; form = Binary operator left right }) passed left.value
    (record { labels = labels; form = Binary operator (record { ptr = left.ptr; alloc = left.alloc; value = passed }) right })
down_binary bound labels operator left right passed none within below computed =
    let other : Box Typed Global = record { ptr = left.ptr; alloc = left.alloc; value = passed } in
    let size = form_less (record { labels = labels; form = Binary operator left right }) in
    let deep = sized-Binary operator left right in
    record {
      same = ap (λ (t : TypedTree). unwound t (typed_model left.value)) (binary_layers labels operator other right)
          ∙ sym (ap (unwound (typed_model passed)) (binary_layers labels operator left right));
      less = omega (arith, size, deep);
      below = (omega (arith, size, deep, within), below);
      computed = subst AreComputed (sym (binary_layers labels operator other right)) (none, computed);
    }

down_short_circuit : (bound : ℕ) (labels : Labels) (operator : ShortCircuitOperator) (left right : Box Typed Global) (passed : Typed) → labels.value ≡ None
    → size-Typed (record { labels = labels; form = ShortCircuit operator left right }) ≤ bound → AreBelow bound passed.form → AreComputed (typed_model passed)
    → IsDown bound (record { labels = labels; form = ShortCircuit operator left right }) passed left.value
    (record { labels = labels; form = ShortCircuit operator (record { ptr = left.ptr; alloc = left.alloc; value = passed }) right })
down_short_circuit bound labels operator left right passed none within below computed =
    let other : Box Typed Global = record { ptr = left.ptr; alloc = left.alloc; value = passed } in
    let size = form_less (record { labels = labels; form = ShortCircuit operator left right }) in
    let deep = sized-ShortCircuit operator left right in
    record {
      same = ap (λ (t : TypedTree). unwound t (typed_model left.value)) (short_circuit_layers labels operator other right)
          ∙ sym (ap (unwound (typed_model passed)) (short_circuit_layers labels operator left right));
      less = omega (arith, size, deep);
      below = (omega (arith, size, deep, within), below);
      computed = subst AreComputed (sym (short_circuit_layers labels operator other right)) (none, computed);
    }

went_down : (bound : ℕ) (labels : Labels) (form : Form) (passed : Typed) → labels.value ≡ None → form_leans form ≡ true → size-Typed (record { labels = labels; form = form }) ≤ bound
    → AreBelow bound passed.form → AreComputed (typed_model passed)
    → IsDown bound (record { labels = labels; form = form }) passed (form_left_in form passed) (record { labels = labels; form = form_with_left form passed })
went_down bound labels (Binary' operator p l f q second other) passed none leans within below computed =
    down_binary bound labels operator (record { ptr = p.ptr; alloc = p.alloc; value = record { labels = l; form = f } }) (record { ptr = q.ptr; alloc = q.alloc; value = record { labels = second; form = other } }) passed none within below computed
went_down bound labels (ShortCircuit' operator p l f q second other) passed none leans within below computed =
    down_short_circuit bound labels operator (record { ptr = p.ptr; alloc = p.alloc; value = record { labels = l; form = f } }) (record { ptr = q.ptr; alloc = q.alloc; value = record { labels = second; form = other } }) passed none within below computed
went_down bound labels form passed none leans within below computed = absurd (cc)

pub is_down : (bound : ℕ) (typed passed new new-passed : Typed) → new ≡ left_in typed passed → new-passed ≡ with_left typed passed → unless_value typed.labels.value (form_leans typed.form) ≡ true
    → size-Typed typed ≤ bound → AreBelow bound passed.form → AreComputed (typed_model passed) → IsDown bound typed passed new new-passed
is_down bound typed passed new new-passed e f lean within below computed =
    subst (λ (n : Typed). IsDown bound typed passed n new-passed) (sym e)
    (subst (IsDown bound typed passed (left_in typed passed)) (sym f)
    (went_down bound typed.labels typed.form passed (not_static typed.labels.value (form_leans typed.form) lean) (does_lean typed.labels.value (form_leans typed.form) lean) within below computed))

-- a step back up
pub record IsUp (bound word : ℕ) (typed passed new new-passed : Typed) : Type 0 where
  pub tree : numbered_up word (typed_model passed) (typed_model typed) ≡ numbered_up (second_after word (form_model new.form)) (typed_model new-passed) (Labelled new.labels (second_numbered word (form_model new.form)))
  pub next : after_up word (typed_model passed) ≡ after_up (second_after word (form_model new.form)) (typed_model new-passed)
  pub less : size-Typed new-passed < size-Typed passed
  pub below : AreBelow bound new-passed.form
  pub last : second_size new.form < bound
  pub leans : form_leans new.form ≡ true

up_binary : (bound word : ℕ) (typed : Typed) (labels : Labels) (operator : BinaryOperator) (left right : Box Typed Global) → size-Typed right.value < bound → AreBelow bound left.value.form
    → IsUp bound word typed (record { labels = labels; form = Binary operator left right })
    (record { labels = labels; form = Binary operator (record { ptr = left.ptr; alloc = left.alloc; value = typed }) right }) left.value
up_binary bound word typed labels operator left right last below =
    let other : Box Typed Global = record { ptr = left.ptr; alloc = left.alloc; value = typed } in
    record {
      tree = ap (λ (t : TypedTree). numbered_up word t (typed_model typed)) (binary_layers labels operator left right)
          ∙ sym (ap (λ (f : FormTree). numbered_up (second_after word f) (typed_model left.value) (Labelled labels (second_numbered word f))) (binary_made operator other right));
      next = ap (after_up word) (binary_layers labels operator left right)
          ∙ sym (ap (λ (f : FormTree). after_up (second_after word f) (typed_model left.value)) (binary_made operator other right));
      less = omega (arith, form_less (record { labels = labels; form = Binary operator left right }), sized-Binary operator left right);
      below = below;
      last = last;
      leans = refl;
    }

up_short_circuit : (bound word : ℕ) (typed : Typed) (labels : Labels) (operator : ShortCircuitOperator) (left right : Box Typed Global) → size-Typed right.value < bound → AreBelow bound left.value.form
    → IsUp bound word typed (record { labels = labels; form = ShortCircuit operator left right })
    (record { labels = labels; form = ShortCircuit operator (record { ptr = left.ptr; alloc = left.alloc; value = typed }) right }) left.value
up_short_circuit bound word typed labels operator left right last below =
    let other : Box Typed Global = record { ptr = left.ptr; alloc = left.alloc; value = typed } in
    record {
      tree = ap (λ (t : TypedTree). numbered_up word t (typed_model typed)) (short_circuit_layers labels operator left right)
          ∙ sym (ap (λ (f : FormTree). numbered_up (second_after word f) (typed_model left.value) (Labelled labels (second_numbered word f))) (short_circuit_made operator other right));
      next = ap (after_up word) (short_circuit_layers labels operator left right)
          ∙ sym (ap (λ (f : FormTree). after_up (second_after word f) (typed_model left.value)) (short_circuit_made operator other right));
      less = omega (arith, form_less (record { labels = labels; form = ShortCircuit operator left right }), sized-ShortCircuit operator left right);
      below = below;
      last = last;
      leans = refl;
    }

went_up : (bound word : ℕ) (typed : Typed) (labels : Labels) (form : Form) → form_leans form ≡ true → AreBelow bound form
    → IsUp bound word typed (record { labels = labels; form = form }) (record { labels = labels; form = form_with_left form typed }) (form_left_in form typed)
went_up bound word typed labels (Binary' operator p l f q second other) leans below =
    up_binary bound word typed labels operator (record { ptr = p.ptr; alloc = p.alloc; value = record { labels = l; form = f } }) (record { ptr = q.ptr; alloc = q.alloc; value = record { labels = second; form = other } }) below.0 below.1
went_up bound word typed labels (ShortCircuit' operator p l f q second other) leans below =
    up_short_circuit bound word typed labels operator (record { ptr = p.ptr; alloc = p.alloc; value = record { labels = l; form = f } }) (record { ptr = q.ptr; alloc = q.alloc; value = record { labels = second; form = other } }) below.0 below.1
went_up bound word typed labels form leans below = absurd (cc)

pub is_up : (bound word : ℕ) (typed passed new new-passed : Typed) → new ≡ with_left passed typed → new-passed ≡ left_in passed typed → form_leans passed.form ≡ true → AreBelow bound passed.form
    → IsUp bound word typed passed new new-passed
is_up bound word typed passed new new-passed e f leans below =
    subst (λ (n : Typed). IsUp bound word typed passed n new-passed) (sym e)
    (subst (IsUp bound word typed passed (with_left passed typed)) (sym f) (went_up bound word typed passed.labels passed.form leans below))

-- the right operand, which was taken out, has its words and is in its place again
right_numbered : (word next : ℕ) (form : Form) (spare right : Typed) → form_leans form ≡ true → typed_model right ≡ numbered word (typed_model (form_right_in form spare))
    → next ≡ after word (typed_model (form_right_in form spare))
    → (form_model (form_with_right (form_with_right form spare) right) ≡ second_numbered word (form_model form)) × (next ≡ second_after word (form_model form))
right_numbered word next (Binary' operator p l f q second other) spare right leans tree more =
    let left : Box Typed Global = record { ptr = p.ptr; alloc = p.alloc; value = record { labels = l; form = f } } in
    let old : Box Typed Global = record { ptr = q.ptr; alloc = q.alloc; value = record { labels = second; form = other } } in
    let new : Box Typed Global = record { ptr = q.ptr; alloc = q.alloc; value = right } in (
      binary_made operator left new ∙ ap (BinaryForm operator (typed_model left.value)) tree ∙ sym (ap (second_numbered word) (binary_made operator left old)),
      more ∙ sym (ap (second_after word) (binary_made operator left old)),
    )
right_numbered word next (ShortCircuit' operator p l f q second other) spare right leans tree more =
    let left : Box Typed Global = record { ptr = p.ptr; alloc = p.alloc; value = record { labels = l; form = f } } in
    let old : Box Typed Global = record { ptr = q.ptr; alloc = q.alloc; value = record { labels = second; form = other } } in
    let new : Box Typed Global = record { ptr = q.ptr; alloc = q.alloc; value = right } in (
      short_circuit_made operator left new ∙ ap (ShortCircuitForm operator (typed_model left.value)) tree ∙ sym (ap (second_numbered word) (short_circuit_made operator left old)),
      more ∙ sym (ap (second_after word) (short_circuit_made operator left old)),
    )
right_numbered word next form spare right leans tree more = absurd (cc)

pub record IsPut (word next : ℕ) (mid new : Typed) : Type 0 where
  pub labels : new.labels ≡ mid.labels
  pub tree : form_model new.form ≡ second_numbered word (form_model mid.form)
  pub goes : next ≡ second_after word (form_model mid.form)

pub right_put : (word next : ℕ) (mid spare taken out right new : Typed) → taken ≡ with_right mid spare → out ≡ right_in mid spare → new ≡ with_right taken right → form_leans mid.form ≡ true
    → typed_model right ≡ numbered word (typed_model out) → next ≡ after word (typed_model out) → IsPut word next mid new
right_put word next mid spare taken out right new took is put leans tree more =
    let whole : new ≡ with_right (with_right mid spare) right = put ∙ ap (λ (t : Typed). with_right t right) took in
    let numbers = right_numbered word next mid.form spare right leans (tree ∙ ap (λ (t : Typed). numbered word (typed_model t)) is) (more ∙ ap (λ (t : Typed). after word (typed_model t)) is) in
    record {
      labels = ap (λ (t : Typed). t.labels) whole;
      tree = ap (λ (t : Typed). form_model t.form) whole ∙ numbers.0;
      goes = numbers.1;
    }

right_in_below : (bound : ℕ) (form : Form) (spare : Typed) → form_leans form ≡ true → second_size form < bound → size-Typed (form_right_in form spare) < bound
right_in_below bound (Binary' operator p l f q second other) spare leans below = below
right_in_below bound (ShortCircuit' operator p l f q second other) spare leans below = below
right_in_below bound form spare leans below = absurd (cc)

pub right_below : (bound : ℕ) (mid spare out : Typed) → out ≡ right_in mid spare → form_leans mid.form ≡ true → second_size mid.form < bound → size-Typed out < bound
right_below bound mid spare out is leans below = subst (λ (t : Typed). size-Typed t < bound) (sym is) (right_in_below bound mid.form spare leans below)

-- what is left above it
pub next_up : (bound word next start : ℕ) (typed passed mid new-passed whole new : Typed) → IsUp bound word typed passed mid new-passed → IsPut word next mid new
    → numbered_up word (typed_model passed) (typed_model typed) ≡ numbered start (typed_model whole) → after_up word (typed_model passed) ≡ after start (typed_model whole)
    → (numbered_up next (typed_model new-passed) (typed_model new) ≡ numbered start (typed_model whole)) × (after_up next (typed_model new-passed) ≡ after start (typed_model whole))
next_up bound word next start typed passed mid new-passed whole new up put tree more = (
  ap (λ (w : ℕ). numbered_up w (typed_model new-passed) (typed_model new)) put.goes
      ∙ ap (numbered_up (second_after word (form_model mid.form)) (typed_model new-passed))
      (typed_layers new ∙ ap (λ (l : Labels). Labelled l (form_model new.form)) put.labels ∙ ap (Labelled mid.labels) put.tree)
      ∙ sym up.tree
      ∙ tree,
  ap (λ (w : ℕ). after_up w (typed_model new-passed)) put.goes ∙ sym up.next ∙ more,
)

-- ---- the ends of a chain

pub nothing_passed : (bound : ℕ) (tree : TypedTree) (passed : Typed) → passed.form ≡ Clock → (unwound (typed_model passed) tree ≡ tree) × AreBelow bound passed.form × AreComputed (typed_model passed)
nothing_passed bound tree passed e =
    let seen : typed_model passed ≡ Labelled passed.labels ClockForm = typed_layers passed ∙ ap (λ (f : Form). Labelled passed.labels (form_model f)) e ∙ ap (Labelled passed.labels) clock_made in
    (ap (λ (t : TypedTree). unwound t tree) seen, subst (AreBelow bound) (sym e) tt, subst AreComputed (sym seen) tt)

-- the first operand has its words
first_is : (word next : ℕ) (value : Option StaticValue) (old new : FormTree) → new ≡ cond (is_some value) old (form_numbered word old) → next ≡ cond (is_some value) word (form_after word old)
    → (new ≡ unless_static value old (form_numbered word old)) × (next ≡ unless_static value word (form_after word old))
first_is word next (Some value) old new e f = (e, f)
first_is word next None old new e f = (e, f)

pub begins_up : (word next : ℕ) (whole typed passed : Typed) (form : Form) (static : Bool) → static ≡ is_some typed.labels.value → unwound (typed_model passed) (typed_model typed) ≡ typed_model whole → AreComputed (typed_model passed)
    → form_model form ≡ cond static (form_model typed.form) (form_numbered word (form_model typed.form))
    → next ≡ cond static word (form_after word (form_model typed.form))
    → (numbered_up next (typed_model passed) (typed_model (record { labels = typed.labels; form = form })) ≡ numbered word (typed_model whole)) × (after_up next (typed_model passed) ≡ after word (typed_model whole))
begins_up word next whole typed passed form static known same computed e f =
    let first = first_is word next typed.labels.value (form_model typed.form) (form_model form) (e ∙ ap (λ (b : Bool). cond b (form_model typed.form) (form_numbered word (form_model typed.form))) known)
    (f ∙ ap (λ (b : Bool). cond b word (form_after word (form_model typed.form))) known) in
    let tree : typed_model (record { labels = typed.labels; form = form }) ≡ numbered word (typed_model typed) =
    typed_layers (record { labels = typed.labels; form = form }) ∙ ap (Labelled typed.labels) first.0 ∙ sym (ap (numbered word) (typed_layers typed)) in
    let more : next ≡ after word (typed_model typed) = first.1 ∙ sym (ap (after word) (typed_layers typed)) in (
      ap (λ (w : ℕ). numbered_up w (typed_model passed) (typed_model (record { labels = typed.labels; form = form }))) more
          ∙ ap (numbered_up (after word (typed_model typed)) (typed_model passed)) tree
          ∙ sym (unwound_numbered word (typed_model passed) (typed_model typed) computed)
          ∙ ap (numbered word) same,
      ap (λ (w : ℕ). after_up w (typed_model passed)) more
          ∙ sym (unwound_after word (typed_model passed) (typed_model typed) computed)
          ∙ ap (after word) same,
    )

ended : (word : ℕ) (labels : Labels) (form : FormTree) (tree : TypedTree) → tree_leans form ≡ false → (numbered_up word (Labelled labels form) tree ≡ tree) × (after_up word (Labelled labels form) ≡ word)
ended word labels (BinaryForm a b c) tree none = absurd (cc)
ended word labels (ShortCircuitForm a b c) tree none = absurd (cc)
ended word labels (LiteralForm a) tree none = (refl, refl)
ended word labels (NamedForm a) tree none = (refl, refl)
ended word labels (UnaryForm a b) tree none = (refl, refl)
ended word labels (MembershipForm a b d e f) tree none = (refl, refl)
ended word labels (ConvertedForm a b) tree none = (refl, refl)
ended word labels (AggregateForm a) tree none = (refl, refl)
ended word labels (OthersForm a b) tree none = (refl, refl)
ended word labels (CallForm a) tree none = (refl, refl)
ended word labels ClockForm tree none = (refl, refl)

pub ends_up : (word : ℕ) (typed passed : Typed) → tree_leans (form_model passed.form) ≡ false → (numbered_up word (typed_model passed) (typed_model typed) ≡ typed_model typed) × (after_up word (typed_model passed) ≡ word)
ends_up word typed passed none =
    let end = ended word passed.labels (form_model passed.form) (typed_model typed) none in (
      ap (λ (t : TypedTree). numbered_up word t (typed_model typed)) (typed_layers passed) ∙ end.0,
      ap (after_up word) (typed_layers passed) ∙ end.1,
    )
