-- Forms whose parts were numbered.
use Rattle.std.proofs.Common.{◌≡◌, ℕ, Bool, sym, ap, ◌∙◌, Box, Global}
use Rattle.al_view_typed.specs.ExpressionTrees.{TypedTree, FormTree as form_trees}
use Rattle.al_view_typed.specs.ExpressionViews.{form_model, typed_model, value_model}
use Rattle.al_view_typed.specs.declared.expression.CheckedValue.{CheckedValue}
use Rattle.al_view_typed.specs.declared.expression.Form.{Form}
use Rattle.al_view_typed.specs.declared.expression.Form.TheVariants.{Unary, Binary, ShortCircuit, Membership, Converted, Others}
use Rattle.al_view_typed.specs.declared.expression.Typed.{Typed}
use Rattle.al_view_typed.specs.declared.label.BinaryOperator.{BinaryOperator}
use Rattle.al_view_typed.specs.declared.label.Conversion.{Conversion}
use Rattle.al_view_typed.specs.declared.label.ShortCircuit.{ShortCircuit as ShortCircuitOperator}
use Rattle.al_view_typed.specs.declared.label.UnaryOperator.{UnaryOperator}
use Rattle.al_view_typed.proofs.ExpressionsMade.{binary_made, converted_made, membership_made, others_made, short_circuit_made, unary_made}
use Rattle.al_overload_slots.specs.Slots.{after, form_numbered, next_word, numbered, value_numbered}

pub unary_changed : (word : ℕ) (x o : UnaryOperator) (b b' : Box Typed Global) (f : Form) → f ≡ Unary o b → x ≡ o → typed_model b'.value ≡ numbered word (typed_model b.value)
    → form_model (Unary x b') ≡ form_numbered word (form_model f)
unary_changed word x o b b' f was same is =
    unary_made x b' ∙ ap (λ (p : UnaryOperator). form_trees.UnaryForm p (typed_model b'.value)) same ∙ ap (form_trees.UnaryForm o) is
    ∙ sym (ap (λ (g : Form). form_numbered word (form_model g)) was ∙ ap (form_numbered word) (unary_made o b))

pub binary_changed : (word next : ℕ) (x o : BinaryOperator) (l r l' r' : Box Typed Global) (f : Form) → f ≡ Binary o l r → x ≡ o
    → typed_model l'.value ≡ numbered word (typed_model l.value) → next ≡ after word (typed_model l.value) → typed_model r'.value ≡ numbered next (typed_model r.value)
    → form_model (Binary x l' r') ≡ form_numbered word (form_model f)
binary_changed word next x o l r l' r' f was same first more second =
    binary_made x l' r'
    ∙ ap (λ (p : BinaryOperator). form_trees.BinaryForm p (typed_model l'.value) (typed_model r'.value)) same
    ∙ ap (λ (a : TypedTree). form_trees.BinaryForm o a (typed_model r'.value)) first
    ∙ ap (form_trees.BinaryForm o (numbered word (typed_model l.value))) (second ∙ ap (λ (w : ℕ). numbered w (typed_model r.value)) more)
    ∙ sym (ap (λ (g : Form). form_numbered word (form_model g)) was ∙ ap (form_numbered word) (binary_made o l r))

pub short_circuit_changed : (word next : ℕ) (x o : ShortCircuitOperator) (l r l' r' : Box Typed Global) (f : Form) → f ≡ ShortCircuit o l r → x ≡ o
    → typed_model l'.value ≡ numbered word (typed_model l.value) → next ≡ after word (typed_model l.value) → typed_model r'.value ≡ numbered next (typed_model r.value)
    → form_model (ShortCircuit x l' r') ≡ form_numbered word (form_model f)
short_circuit_changed word next x o l r l' r' f was same first more second =
    short_circuit_made x l' r'
    ∙ ap (λ (p : ShortCircuitOperator). form_trees.ShortCircuitForm p (typed_model l'.value) (typed_model r'.value)) same
    ∙ ap (λ (a : TypedTree). form_trees.ShortCircuitForm o a (typed_model r'.value)) first
    ∙ ap (form_trees.ShortCircuitForm o (numbered word (typed_model l.value))) (second ∙ ap (λ (w : ℕ). numbered w (typed_model r.value)) more)
    ∙ sym (ap (λ (g : Form). form_numbered word (form_model g)) was ∙ ap (form_numbered word) (short_circuit_made o l r))

pub membership_changed : (word inside second third : ℕ) (x o : Bool) (v l h : Box Typed Global) (slot : ℕ) (v' l' h' : Box Typed Global) (f : Form) → f ≡ Membership v o l h slot → x ≡ o
    → inside ≡ next_word word → typed_model v'.value ≡ numbered inside (typed_model v.value)
    → second ≡ after inside (typed_model v.value) → typed_model l'.value ≡ numbered second (typed_model l.value)
    → third ≡ after second (typed_model l.value) → typed_model h'.value ≡ numbered third (typed_model h.value)
    → form_model (Membership v' x l' h' word) ≡ form_numbered word (form_model f)
membership_changed word inside second third x o v l h slot v' l' h' f was same at first more low last high =
    let s : second ≡ after (next_word word) (typed_model v.value) = more ∙ ap (λ (w : ℕ). after w (typed_model v.value)) at in
    let t : third ≡ after (after (next_word word) (typed_model v.value)) (typed_model l.value) = last ∙ ap (λ (w : ℕ). after w (typed_model l.value)) s in
    let a : typed_model v'.value ≡ numbered (next_word word) (typed_model v.value) = first ∙ ap (λ (w : ℕ). numbered w (typed_model v.value)) at in
    let b : typed_model l'.value ≡ numbered (after (next_word word) (typed_model v.value)) (typed_model l.value) = low ∙ ap (λ (w : ℕ). numbered w (typed_model l.value)) s in
    let d : typed_model h'.value ≡ numbered (after (after (next_word word) (typed_model v.value)) (typed_model l.value)) (typed_model h.value) = high ∙ ap (λ (w : ℕ). numbered w (typed_model h.value)) t in
    membership_made v' x l' h' word
    ∙ ap (λ (p : Bool). form_trees.MembershipForm (typed_model v'.value) p (typed_model l'.value) (typed_model h'.value) word) same
    ∙ ap (λ (p : TypedTree). form_trees.MembershipForm p o (typed_model l'.value) (typed_model h'.value) word) a
    ∙ ap (λ (p : TypedTree). form_trees.MembershipForm (numbered (next_word word) (typed_model v.value)) o p (typed_model h'.value) word) b
    ∙ ap (λ (p : TypedTree). form_trees.MembershipForm (numbered (next_word word) (typed_model v.value)) o (numbered (after (next_word word) (typed_model v.value)) (typed_model l.value)) p word) d
    ∙ sym (ap (λ (g : Form). form_numbered word (form_model g)) was ∙ ap (form_numbered word) (membership_made v o l h slot))

pub converted_changed : (word : ℕ) (x o : Conversion) (b b' : Box CheckedValue Global) (f : Form) → f ≡ Converted o b → x ≡ o → value_model b'.value ≡ value_numbered word (value_model b.value)
    → form_model (Converted x b') ≡ form_numbered word (form_model f)
converted_changed word x o b b' f was same is =
    converted_made x b' ∙ ap (λ (p : Conversion). form_trees.ConvertedForm p (value_model b'.value)) same ∙ ap (form_trees.ConvertedForm o) is
    ∙ sym (ap (λ (g : Form). form_numbered word (form_model g)) was ∙ ap (form_numbered word) (converted_made o b))

pub others_changed : (word x o : ℕ) (b b' : Box CheckedValue Global) (f : Form) → f ≡ Others o b → x ≡ o → value_model b'.value ≡ value_numbered word (value_model b.value)
    → form_model (Others x b') ≡ form_numbered word (form_model f)
others_changed word x o b b' f was same is =
    others_made x b' ∙ ap (λ (p : ℕ). form_trees.OthersForm p (value_model b'.value)) same ∙ ap (form_trees.OthersForm o) is
    ∙ sym (ap (λ (g : Form). form_numbered word (form_model g)) was ∙ ap (form_numbered word) (others_made o b))
