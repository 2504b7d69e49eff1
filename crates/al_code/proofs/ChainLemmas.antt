-- A chain with one more link at its beginning, and without it.
use Rattle.std.proofs.Common.{◌≡◌, ◌≤◌, ℕ, length, List, [], ◌∷◌, ◌++◌, Option, Some, None, Bool, false, Box, Global, refl, sym, ap, subst, ◌∙◌, arith}
use Rattle.std.specs.Prelude.{is_some}
use Rattle.std.specs.Option.{option_to_list}
use Rattle.std.proofs.lemmas.List.{append_assoc, append-nil}
use Rattle.al_code.proofs.Writing.{written_append, written_nothing}
use Rattle.al_code.specs.Pieces.{Piece}
use Rattle.al_code.specs.Written.{Buffer, written}
use Rattle.al_code.specs.Chains.{AreBelow, IsBelow, chained_code, joint_code}
use Rattle.al_code.specs.Templates.{binary_code, form_code, static_or, value_of, words_of}
use Rattle.al_code.proofs.ExprLayers.{typed_layers, typed_words}
use Rattle.al_view.specs.declared.types.StaticValue.{StaticValue}
use Rattle.al_view_typed.specs.ExpressionViews.{form_model, typed_model}
use Rattle.al_view_typed.specs.declared.expression.Form.{Form}
use Rattle.al_view_typed.specs.declared.expression.Form.TheVariants.{Binary}
use Rattle.al_view_typed.specs.declared.label.BinaryOperator.{BinaryOperator}
use Rattle.al_view_typed.proofs.ExpressionsMade.{binary_made}
use Rattle.al_code.specs.declared.chain.Joint.{Joint}
use Rattle.al_view_typed.specs.declared.expression.Typed.{Typed, out-Typed, size-Typed}

pub last_chained : (depth : ℕ) (joints : List Joint) (joint : Joint) → chained_code depth (joints ++ joint ∷ []) ≡ joint_code depth joint ++ chained_code depth joints
last_chained depth [] joint = sym (append-nil (joint_code depth joint))
last_chained depth (x ∷ joints) joint =
    ap (λ (ps : List Piece). ps ++ joint_code depth x) (last_chained depth joints joint)
    ∙ append_assoc (joint_code depth joint) (chained_code depth joints) (joint_code depth x)

-- a step down the left operands
pub first_chained : (depth : ℕ) (joints new : List Joint) (joint : Joint) (rest left whole : List Piece)
    → new ≡ joints ++ joint ∷ [] → rest ≡ left ++ joint_code depth joint → rest ++ chained_code depth joints ≡ whole → left ++ chained_code depth new ≡ whole
first_chained depth joints new joint rest left whole is step known =
    ap (λ (js : List Joint). left ++ chained_code depth js) is
    ∙ ap (λ (ps : List Piece). left ++ ps) (last_chained depth joints joint)
    ∙ sym (append_assoc left (joint_code depth joint) (chained_code depth joints))
    ∙ ap (λ (ps : List Piece). ps ++ chained_code depth joints) (sym step)
    ∙ known

pub last_below : (whole : Typed) (joints : List Joint) (joint : Joint) → AreBelow whole (joints ++ joint ∷ []) → AreBelow whole joints × IsBelow whole joint.right.now
last_below whole [] joint all = (tt, all.0)
last_below whole (x ∷ joints) joint all = let rest = last_below whole joints joint all.1 in ((all.0, rest.0), rest.1)

pub more_below : (whole : Typed) (joints : List Joint) (joint : Joint) → AreBelow whole joints → IsBelow whole joint.right.now → AreBelow whole (joints ++ joint ∷ [])
more_below whole [] joint all one = (one, tt)
more_below whole (x ∷ joints) joint all one = (all.0, more_below whole joints joint all.1 one)

-- a step down from what is no deeper than the whole
pub pushed_below : (whole rest : Typed) (joints new : List Joint) (joint : Joint) → new ≡ joints ++ joint ∷ [] → size-Typed rest ≤ size-Typed whole → AreBelow whole joints → IsBelow rest joint.right.now → AreBelow whole new
pushed_below whole rest joints new joint is less all one = subst (AreBelow whole) (sym is) (more_below whole joints joint all (omega (arith, less, one)))

-- ---- the next link from the first operand on

pub popped : (old new : List Joint) (o : Option Joint) (joint : Joint) → old ≡ new ++ option_to_list o → o ≡ Some joint → old ≡ new ++ joint ∷ []
popped old new o joint items is = items ∙ ap (λ (x : Option Joint). new ++ option_to_list x) is

pub popped_below : (whole : Typed) (old new : List Joint) (o : Option Joint) (joint : Joint) → old ≡ new ++ option_to_list o → o ≡ Some joint → AreBelow whole old → AreBelow whole new × IsBelow whole joint.right.now
popped_below whole old new o joint items is all = last_below whole new joint (subst (AreBelow whole) (popped old new o joint items is) all)

-- what was written so far, and the next link
pub next_written : (depth : ℕ) (old new : List Joint) (o : Option Joint) (joint : Joint) (out next whole : Option Buffer) → old ≡ new ++ option_to_list o → o ≡ Some joint
    → next ≡ written out (joint_code depth joint) → written out (chained_code depth old) ≡ whole → written next (chained_code depth new) ≡ whole
next_written depth old new o joint out next whole items is step known =
    ap (λ (b : Option Buffer). written b (chained_code depth new)) step
    ∙ written_append out (joint_code depth joint) (chained_code depth new)
    ∙ ap (written out) (sym (ap (chained_code depth) (popped old new o joint items is) ∙ last_chained depth new joint))
    ∙ known

pub nothing_left : (depth : ℕ) (joints : List Joint) (out whole : Option Buffer) → length joints ≡ 0 → written out (chained_code depth joints) ≡ whole → out ≡ whole
nothing_left depth [] out whole empty known = sym (written_nothing out) ∙ known
nothing_left depth (joint ∷ joints) out whole empty known = absurd (cc)

-- ---- the last link of an expression

computed : (o : Option StaticValue) (code : List Piece) → is_some o ≡ false → static_or o code ≡ code
computed None code dynamic = refl
computed (Some v) code dynamic = absurd (cc)

-- the value of an operator with two operands that isn't static, the words of its left operand read beside it
pub binary_value : (t l r w : Typed) (operator : BinaryOperator) (left right : Box Typed Global) → is_some (out-Typed t).labels.value ≡ false → (out-Typed t).form ≡ Binary operator left right
    → l ≡ left.value → r ≡ right.value → w ≡ left.value
    → (depth : ℕ) → value_of depth (typed_model t) ≡ value_of depth (typed_model l) ++ (value_of depth (typed_model r) ++ binary_code operator (out-Typed w).labels.words)
binary_value t l r w operator left right dynamic is l-is r-is w-is depth =
    ap (value_of depth) (typed_layers t)
    ∙ computed (out-Typed t).labels.value (form_code depth (out-Typed t).labels.words (form_model (out-Typed t).form)) dynamic
    ∙ ap (λ (f : Form). form_code depth (out-Typed t).labels.words (form_model f)) is
    ∙ ap (form_code depth (out-Typed t).labels.words) (binary_made operator left right)
    ∙ append_assoc (value_of depth (typed_model left.value)) (value_of depth (typed_model right.value)) (binary_code operator (words_of (typed_model left.value)))
    ∙ ap (λ (x : Typed). value_of depth (typed_model x) ++ (value_of depth (typed_model right.value) ++ binary_code operator (words_of (typed_model left.value)))) (sym l-is)
    ∙ ap (λ (x : Typed). value_of depth (typed_model l) ++ (value_of depth (typed_model x) ++ binary_code operator (words_of (typed_model left.value)))) (sym r-is)
    ∙ ap (λ (x : Typed). value_of depth (typed_model l) ++ (value_of depth (typed_model r) ++ binary_code operator (words_of (typed_model x)))) (sym w-is)
    ∙ ap (λ (n : ℕ). value_of depth (typed_model l) ++ (value_of depth (typed_model r) ++ binary_code operator n)) (typed_words w)
