-- What an operator or a group gives is a number if, and only if, its first operand is, once the rest was looked at.
use Rattle.std.proofs.Common.{◌≡◌, Bool, true, ◌&&◌, Box, Global, List, sym, ap, ◌∙◌}
use Rattle.al_base.specs.declared.place.Place.{Place}
use Rattle.al_overload.specs.Universal.{computes_one, computes_two, is_universal}
use Rattle.al_overload.proofs.TermsMade.{group_made, infix_made, prefixed_made}
use Rattle.al_overload.specs.TermViews.{term_model}
use Rattle.al_overload.specs.declared.heads_term.Term.{Term}
use Rattle.al_overload.specs.declared.heads_term.Term.TheVariants.{Group, Infix, Prefixed}
use Rattle.al_overload_nodes.proofs.Booleans.{and_true}
use Rattle.al_view.specs.declared.view.ViewKind.{ViewKind}
use Rattle.al_view_typed.specs.declared.label.BinaryOperator.{BinaryOperator}
use Rattle.al_view_typed.specs.declared.label.UnaryOperator.{UnaryOperator}

pub infix_passed : (term left : Term) (operator : BinaryOperator) (views : List ViewKind) (l r : Box Term Global)
    → term ≡ Infix operator views l r → left ≡ l.value → computes_two operator ≡ true → is_universal (term_model r.value) ≡ true
    → is_universal (term_model left) ≡ is_universal (term_model term)
infix_passed term left operator views l r is here computes right =
    ap (λ (y : Term). is_universal (term_model y)) here
    ∙ sym (ap (λ (y : Term). is_universal (term_model y)) is
    ∙ ap is_universal (infix_made operator views l r)
    ∙ ap (λ (a : Bool). a && (is_universal (term_model l.value) && is_universal (term_model r.value))) computes
    ∙ ap (λ (b : Bool). is_universal (term_model l.value) && b) right
    ∙ and_true (is_universal (term_model l.value)))

pub prefixed_passed : (term inner : Term) (place : Place) (operator : UnaryOperator) (views : List ViewKind) (operand : Box Term Global)
    → term ≡ Prefixed place operator views operand → inner ≡ operand.value → computes_one operator ≡ true
    → is_universal (term_model inner) ≡ is_universal (term_model term)
prefixed_passed term inner place operator views operand is here computes =
    ap (λ (y : Term). is_universal (term_model y)) here
    ∙ sym (ap (λ (y : Term). is_universal (term_model y)) is
    ∙ ap is_universal (prefixed_made place operator views operand)
    ∙ ap (λ (a : Bool). a && is_universal (term_model operand.value)) computes)

pub group_passed : (term rest : Term) (place : Place) (inner : Box Term Global)
    → term ≡ Group place inner → rest ≡ inner.value → is_universal (term_model rest) ≡ is_universal (term_model term)
group_passed term rest place inner is here =
    ap (λ (y : Term). is_universal (term_model y)) here
    ∙ sym (ap (λ (y : Term). is_universal (term_model y)) is ∙ ap is_universal (group_made place inner))
