-- What is known of the left operand of an operator between numbers, by what is known of all.
use Rattle.std.proofs.Common.{◌≡◌, Bool, true, false, ◌&&◌, List, Option, Some, None, true≢false, refl, sym, ap, ◌∙◌, Box, Global}
use Rattle.al_overload.specs.Universal.{computes_two, is_universal}
use Rattle.al_overload_nodes.specs.Known.{IsKnown}
use Rattle.al_overload.proofs.TermsMade.{infix_made}
use Rattle.al_overload.specs.TermViews.{term_model}
use Rattle.al_overload.specs.declared.heads_term.Term.{Term}
use Rattle.al_overload.specs.declared.heads_term.Term.TheVariants.{Infix}
use Rattle.al_view_typed.specs.declared.label.BinaryOperator.{BinaryOperator}
use Rattle.al_view.specs.declared.view.ViewKind.{ViewKind}

pub left_too : (computes left right : Bool) → (computes && (left && right)) ≡ true → true ≡ left
left_too true true true h = refl
left_too true true false h = refl
left_too true false right h = absurd (true≢false (sym h))
left_too false left right h = absurd (true≢false (sym h))

-- if the operator and its right operand aren't what keeps all from being so
pub left_not : (computes left right : Bool) → (computes && (left && right)) ≡ false → (computes && (right && right)) ≡ true → false ≡ left
left_not true true true h r = absurd (true≢false h)
left_not true false right h r = refl
left_not true true false h r = absurd (true≢false (sym r))
left_not false left right h r = absurd (true≢false (sym r))

pub known_by : (known : Option Bool) (a b : Bool) → a ≡ b → IsKnown known a → IsKnown known b
known_by None a b e h = tt
known_by (Some k) a b e h = h ∙ e

-- of an operator's term, by its operands
pub infix_known : (term left right : Term) (operator : BinaryOperator) (views : List ViewKind) (l r : Box Term Global) (known : Option Bool)
    → term ≡ Infix operator views l r → left ≡ l.value → right ≡ r.value
    → IsKnown known (is_universal (term_model term)) → IsKnown known (computes_two operator && (is_universal (term_model left) && is_universal (term_model right)))
infix_known term left right operator views l r known is first second h =
    known_by known (is_universal (term_model term)) (computes_two operator && (is_universal (term_model left) && is_universal (term_model right)))
    (ap (λ (y : Term). is_universal (term_model y)) is
    ∙ ap is_universal (infix_made operator views l r)
    ∙ ap (λ (y : Term). computes_two operator && (is_universal (term_model y) && is_universal (term_model r.value))) (sym first)
    ∙ ap (λ (y : Term). computes_two operator && (is_universal (term_model left) && is_universal (term_model y))) (sym second))
    h
